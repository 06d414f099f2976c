use Rattle.drive_rescue.proofs.KeepLaws.{keeps-source_none}
use Rattle.rescue_rows.proofs.flaky.FlakySource.read.Goals as goal

pub returns-then-self-clause-kept : goal.returns-then-self-clause-kept
returns-then-self-clause-kept g c = keeps-source_none _ c.geometry-geometry.ensures.lawful
