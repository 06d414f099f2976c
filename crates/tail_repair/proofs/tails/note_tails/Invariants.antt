use Rattle.std.proofs.Common.{IsTrue}
use Rattle.drive_survey.specs.Reported.{KeepsZones}
use Rattle.tail_repair.specs.Repair.{AreNoted}
use Rattle.tail_repair.proofs.tails.note_tails.Given as goal

abbrev pub invariant-loop-number : goal.invariant-loop-number
invariant-loop-number g l =
    KeepsZones (g.D.Device.drive l.fn.device) (g.D.Device.drive l.device)
    × (IsTrue (g.D.Device.drive l.device).clean → AreNoted (g.D.Device.drive l.fn.device) l.number l.tails.items)
