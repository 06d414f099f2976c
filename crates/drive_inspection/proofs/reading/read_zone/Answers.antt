use Rattle.drive_survey.proofs.ReadLaws.{keeps-none}
use Rattle.drive_inspection.proofs.reading.read_zone.Goals as goal

pub returns-then-is_unusable-clause-kept : goal.returns-then-is_unusable-clause-kept
returns-then-is_unusable-clause-kept g c = keeps-none _ c.requires.zone.lawful
