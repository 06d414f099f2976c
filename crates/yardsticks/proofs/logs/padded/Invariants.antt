use Rattle.std.proofs.Common.{◌≡◌, ◌-◌, ◌≤◌, ◌++◌, length, max, replicate}
use Rattle.batch_log.specs.Log.{zero_block}
use Rattle.yardsticks.specs.Batches.{held_blocks}
use Rattle.yardsticks.proofs.logs.padded.Given as goal

abbrev pub invariant-loop-number : goal.invariant-loop-number
invariant-loop-number l =
    let first = length l.fn.blocks.items in
    record {
      blocks : held_blocks l.blocks.items ≡ held_blocks l.fn.blocks.items ++ replicate (l._number - first) (zero_block l.geometry.block);
      range : l._number ≤ max first l.geometry.capacity;
    }
