use Rattle.drive_survey.proofs.ReadLaws.{keeps-none}
use Rattle.device_jobs.proofs.no_devices.NoSourceSource.report.Goals as goal

pub returns-clause-kept : goal.returns-clause-kept
returns-clause-kept c = keeps-none _ c.requires.lawful
