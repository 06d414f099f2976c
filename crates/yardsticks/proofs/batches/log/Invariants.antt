use Rattle.std.proofs.Common.{◌≡◌, length, map, vec_len}
use Rattle.std.specs.List.{AllByRecursion}
use Rattle.batch_log.specs.Log.{BeginsWith}
use Rattle.yardsticks.specs.Batches.{held_blocks, batch_of}
use Rattle.yardsticks.proofs.batches.log.Given as goal

abbrev pub invariant-loop-batches : goal.invariant-loop-batches
invariant-loop-batches l = record {
  so_far : BeginsWith l.block_bytes (held_blocks l.blocks) (map batch_of l.batches.items) (held_blocks l.rest);
  sizes : AllByRecursion (λ block. vec_len block ≡ l.block_bytes) l.rest;
}

abbrev pub decreases-loop-batches : goal.decreases-loop-batches
decreases-loop-batches l = length l.rest
