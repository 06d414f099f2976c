-- What the batches of the yardstick stand for, and what it finds.
use Rattle.std.specs.Prelude.{◌≡◌, ℕ, suc, ◌++◌, ◌&&◌, not, Bool, List, length, map, drop, Vec}
use Rattle.std.specs.declared.alloc.Global.{Global}
use Rattle.yardsticks.specs.declared.batches.Batch as yardstick
use Rattle.yardsticks.specs.declared.batches.ZoneLog.{ZoneLog}
use Rattle.batch_log.specs.Header.{heading_of}
use Rattle.batch_log.specs.Log.{Batch, IsBatch, IsLog, batch_blocks, has_tail}

abbrev pub held_blocks : List (Vec ℕ Global) → List (List ℕ)
held_blocks blocks = map (λ block. block.items) blocks

abbrev pub batch_of : yardstick.Batch → Batch
batch_of batch = record { heading = heading_of batch.header; body = held_blocks batch.body.items }

-- the blocks have a log, and it is this one: its batches, and whether a torn tail is after them
pub record IsFound (block_bytes : ℕ) (is_full : Bool) (blocks : List (List ℕ)) (log : ZoneLog) : Type 0 where
  pub log_is : IsLog block_bytes is_full blocks (map batch_of log.batches.items)
  pub torn_is : log.is_torn ≡ (not is_full && has_tail blocks)

-- the blocks begin with this batch
pub record BeginsWithBatch (block_bytes : ℕ) (blocks : List (List ℕ)) (batch : Batch) : Type 0 where
  pub fits : IsBatch block_bytes batch
  pub encoded : blocks ≡ batch_blocks block_bytes batch ++ drop (suc (length batch.body)) blocks
