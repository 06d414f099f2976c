use Rattle.drive_survey.specs.Reported.{KeepsZones}
use Rattle.tail_repair.proofs.repair.copy_of.Given as goal

abbrev pub invariant-loop-number : goal.invariant-loop-number
invariant-loop-number g l = KeepsZones (g.D.Device.drive l.fn.device) (g.D.Device.drive l.device)
