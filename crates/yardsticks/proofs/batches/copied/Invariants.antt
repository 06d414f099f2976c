use Rattle.std.proofs.Common.{◌≡◌, take}
use Rattle.yardsticks.specs.Batches.{held_blocks}
use Rattle.yardsticks.proofs.batches.copied.Given as goal

abbrev pub invariant-loop-block : goal.invariant-loop-block
invariant-loop-block l = held_blocks l.copy.items ≡ held_blocks (take l.block-index l.blocks)
