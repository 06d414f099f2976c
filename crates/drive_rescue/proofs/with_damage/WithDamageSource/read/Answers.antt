use Rattle.drive_rescue.proofs.KeepLaws.{keeps-source_none}
use Rattle.drive_rescue.proofs.with_damage.WithDamageSource.read.Goals as goal

pub returns-then-is_damaged-clause-kept : goal.returns-then-is_damaged-clause-kept
returns-then-is_damaged-clause-kept g c = keeps-source_none _ c.geometry-geometry.ensures.lawful
