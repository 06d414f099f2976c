use Rattle.std.proofs.Common.{◌≡◌, ◌++◌, IsTrue, drop}
use Rattle.std.specs.List.{All}
use Rattle.tail_repair.specs.Repair.{IsElsewhere, KeepsDrive, moved_tails}
use Rattle.tail_repair.proofs.PlaceLaws.{InPlace}
use Rattle.tail_repair.proofs.repair.repair_each.Given as goal

abbrev pub invariant-loop-tail : goal.invariant-loop-tail
invariant-loop-tail g l =
    KeepsDrive (g.D.Device.drive l.fn.device) (g.D.Device.drive l.device)
    × (moved_tails l.moved.items ++ drop l.tail-index l.tails ≡ l.tails)
    × All IsElsewhere l.moved.items
    × (IsTrue (g.D.Device.drive l.device).clean → InPlace (g.D.Device.drive l.fn.device) (g.D.Device.drive l.device) l.tails l.tail-index l.moved.items)
