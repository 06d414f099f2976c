-- How far the blocks of a zone are batches, and how these end.
use Rattle.std.specs.Prelude.{◌≡◌, ℕ, ◌<◌, ◌^◌, ◌&&◌, if◌then◌else◌, Bool, true, false, List, [], ◌∷◌, length, Option, Some, None}
use Rattle.std.specs.List.{list_all, AllByRecursion}
use Rattle.batch_log.specs.declared.fault.LogFault.{LogFault}
use Rattle.batch_log.specs.declared.fault.LogFault.TheVariants.{Torn, ForeignTail}
use Rattle.batch_log.specs.Causes.{header_fault, is_zero}
use Rattle.batch_log.specs.Log.{Batch, BeginsWith, BeginsWithNoBatch, HaveNoLog, IsLog, IsTorn, IsUntornLog, tail_of}

-- the batches end with the log, in a torn tail, or at a fault
pub data Ending : Type 0 where
  ended : Ending
  torn : Ending
  failed : LogFault → Ending

-- If no header block stands. In a full zone a zero block ends the log, if all after it are zeros.
abbrev pub foreign_ending : Bool → LogFault → Bool → Bool → Ending
foreign_ending is_full cause zero_block zero_rest =
    if is_full && zero_block then (if zero_rest then ended else failed ForeignTail) else failed cause

-- where a header block stands, and too few blocks after it
abbrev pub short_ending : Bool → Ending
short_ending true = failed Torn
short_ending false = torn

abbrev pub ending_by : Option LogFault → Bool → Bool → Bool → Ending
ending_by None is_full zero_block zero_rest = short_ending is_full
ending_by (Some cause) is_full zero_block zero_rest = foreign_ending is_full cause zero_block zero_rest

-- how the batches end where these blocks are left, which begin with none
abbrev pub ending_of : Bool → List (List ℕ) → Ending
ending_of is_full [] = ended
ending_of is_full (block ∷ others) = ending_by (header_fault block) is_full (is_zero block) (list_all is_zero others)

-- the blocks are these batches, and a tail that begins with none: so they end
pub record ReadsLog (block_bytes : ℕ) (is_full : Bool) (blocks : List (List ℕ)) (log : List Batch) (ending : Ending) : Type 0 where
  pub tail : List (List ℕ)
  pub front : BeginsWith block_bytes blocks log tail
  pub no_more : BeginsWithNoBatch block_bytes tail
  pub ending_is : ending ≡ ending_of is_full tail

-- each block has its number of bytes
abbrev pub AreBlocks : ℕ → List (List ℕ) → Type 0
AreBlocks block_bytes blocks = AllByRecursion (λ block. (length block ≡ block_bytes) × AllByRecursion (λ byte. byte < 2 ^ 8) block) blocks

-- the blocks are a log with a torn tail
pub record IsTornLog (block_bytes : ℕ) (is_full : Bool) (blocks : List (List ℕ)) (log : List Batch) : Type 0 where
  pub not_full : is_full ≡ false
  pub log_is : IsLog block_bytes false blocks log
  pub tail : IsTorn block_bytes (tail_of blocks)

-- what an ending says of the log
abbrev pub SaysOfLog : ℕ → Bool → List (List ℕ) → List Batch → Ending → Type 0
SaysOfLog block_bytes is_full blocks log ended = IsUntornLog block_bytes is_full blocks log
SaysOfLog block_bytes is_full blocks log torn = IsTornLog block_bytes is_full blocks log
SaysOfLog block_bytes is_full blocks log (failed fault) = HaveNoLog block_bytes is_full blocks
