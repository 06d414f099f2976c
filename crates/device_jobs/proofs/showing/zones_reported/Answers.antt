use Rattle.drive_survey.proofs.ReadLaws.{keeps-none}
use Rattle.device_jobs.proofs.showing.zones_reported.Goals as goal

pub returns-in_default-clause-kept : goal.returns-in_default-clause-kept
returns-in_default-clause-kept g c = keeps-none _ c.geometry-geometry.ensures.lawful
