use Rattle.std.proofs.Common.{◌+◌, ◌*◌, ◌≤◌, IsTrue}
use Rattle.drive_survey.specs.Reported.{KeepsZones}
use Rattle.drive_survey.proofs.ShowLaws.{SameSoFar}
use Rattle.drive_survey.proofs.clearing.shown.first_needed.Given as goal

abbrev pub invariant-loop-found : goal.invariant-loop-found
invariant-loop-found g l = KeepsZones (g.D.Device.drive l.fn.device) (g.D.Device.drive l.device) × (IsTrue (g.D.Device.drive l.device).clean → SameSoFar (g.D.Device.drive l.fn.device) l.table l.zone l.found-items l.found-index)
    × ((g.D.Device.drive l.device).completed ≤ (g.D.Device.drive l.fn.device).completed + 2 * l.found-index)
