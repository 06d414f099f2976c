use Rattle.drive_survey.proofs.ReadLaws.{keeps-none}
use Rattle.drive_inspection.proofs.inspecting.zones_reported.Goals as goal

pub returns-then-is_err-clause-kept : goal.returns-then-is_err-clause-kept
returns-then-is_err-clause-kept g c = keeps-none _ c.geometry-geometry.ensures.lawful
