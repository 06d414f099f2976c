use Rattle.drive_survey.proofs.ReadLaws.{keeps-none}
use Rattle.drive_inspection.proofs.inspecting.faults_of.Goals as goal

pub returns-in-Ok-clause-kept : goal.returns-in-Ok-clause-kept
returns-in-Ok-clause-kept g c = keeps-none _ c.requires.lawful
