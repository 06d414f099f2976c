use Rattle.drive_survey.proofs.ReadLaws.{keeps-none}
use Rattle.tail_repair.proofs.repair.is_part.Goals as goal

pub returns-then-not-may_be_copy-clause-kept : goal.returns-then-not-may_be_copy-clause-kept
returns-then-not-may_be_copy-clause-kept g c = keeps-none _ c.requires.from.lawful
