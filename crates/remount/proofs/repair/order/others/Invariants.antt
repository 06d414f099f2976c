use Rattle.std.proofs.Common.{◌≡◌, ◌++◌, drop}
use Rattle.remount.specs.Moving.{others}
use Rattle.remount.proofs.repair.order.others.Given as goal

abbrev pub invariant-loop-block : goal.invariant-loop-block
invariant-loop-block l = l.order.items ++ others l.last (drop l.block-index l.blocks) ≡ others l.last l.blocks
