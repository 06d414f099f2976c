use Rattle.std.proofs.Common.{◌<◌, ℕ, IsTrue}
use Rattle.drive_survey.specs.Reported.{KeepsZones}
use Rattle.tail_repair.specs.Repair.{Agrees}
use Rattle.tail_repair.proofs.copy.is_copy.Given as goal

abbrev pub invariant-loop-offset : goal.invariant-loop-offset
invariant-loop-offset g l =
    KeepsZones (g.D.Device.drive l.fn.device) (g.D.Device.drive l.device)
    × (IsTrue (g.D.Device.drive l.device).clean → (offset : ℕ) → offset < l.offset → Agrees (g.D.Device.drive l.fn.device) l.front.zone.number l.front.blocks l.to.number offset)
