use Rattle.std.proofs.Common.{◌-◌}
use Rattle.tail_repair.specs.Repair.{Extends}
use Rattle.tail_repair.proofs.copy.copy_blocks.Given as goal

abbrev pub invariant-loop-next : goal.invariant-loop-next
invariant-loop-next g l = Extends (g.D.Device.drive l.fn.device) (g.D.Device.drive l.device) l.to

abbrev pub decreases-loop-next : goal.decreases-loop-next
decreases-loop-next g l = l.front.blocks - l.next
