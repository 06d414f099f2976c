use Rattle.std.proofs.Common.{◌≡◌, take}
use Rattle.yardsticks.specs.Batches.{held_blocks}
use Rattle.yardsticks.proofs.spare.are_same.Given as goal

abbrev pub invariant-loop-i : goal.invariant-loop-i
invariant-loop-i l = held_blocks (take l.i l.blocks) ≡ held_blocks (take l.i l.others)
