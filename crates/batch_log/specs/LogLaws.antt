-- What holds of all header blocks, and of all logs. A block has fewer than 2 ^ 32 bytes, so that the number of its entries fits the header.
use Rattle.std.specs.Prelude.{◌≡◌, ℕ, ◌<◌, ◌≤◌, ◌^◌, Bool, true, false, List, [], ◌∷◌, ◌++◌, length, replicate, take}
use Rattle.batch_log.specs.Header.{Heading, IsHeading, head_size, header_block}
use Rattle.batch_log.specs.Reading.{heading_in}
use Rattle.batch_log.specs.Ending.{AreBlocks, Ending, ReadsLog, SaysOfLog}
use Rattle.batch_log.specs.Log.{Batch, IsBatch, IsLog, IsTorn, IsUntornLog, IsWholeLog, batch_blocks, zero_block, log_of, tail_of, has_tail}

-- a header block is read again
abbrev pub HeaderAgain : Type 0
HeaderAgain = (block_bytes : ℕ) (heading : Heading) → block_bytes < 2 ^ 32 → IsHeading block_bytes heading
    → heading_in (header_block block_bytes heading) ≡ heading

-- each header has a block of its own
abbrev pub OneHeader : Type 0
OneHeader =
    (block_bytes : ℕ) (heading other : Heading) → block_bytes < 2 ^ 32 → IsHeading block_bytes heading → IsHeading block_bytes other
    → header_block block_bytes heading ≡ header_block block_bytes other → heading ≡ other

-- a header block is a whole block
abbrev pub HeaderLength : Type 0
HeaderLength = (block_bytes : ℕ) (heading : Heading) → head_size ≤ block_bytes → IsHeading block_bytes heading
    → length (header_block block_bytes heading) ≡ block_bytes

-- ---- logs

-- a list of blocks has one log at most, and `log_of` finds it
abbrev pub OneLog : Type 0
OneLog = (block_bytes : ℕ) (is_full : Bool) (blocks : List (List ℕ)) (log : List Batch) → block_bytes < 2 ^ 32
    → IsLog block_bytes is_full blocks log → log_of blocks ≡ log

-- it has one tail at most, and `tail_of` finds it
abbrev pub OneTail : Type 0
OneTail = (block_bytes : ℕ) (is_full : Bool) (blocks : List (List ℕ)) (log : List Batch) → block_bytes < 2 ^ 32
    → (is : IsLog block_bytes is_full blocks log) → is.tail ≡ tail_of blocks

-- batches with nothing after them are a log, of a full zone too
abbrev pub WholeLog : Type 0
WholeLog = (block_bytes : ℕ) (is_full : Bool) (blocks : List (List ℕ)) (log : List Batch) → IsWholeLog block_bytes blocks log
    → IsLog block_bytes is_full blocks log

-- a log with no torn tail is a log; outside a full zone it is only its batches
pub record UntornExactly (block_bytes : ℕ) (is_full : Bool) (blocks : List (List ℕ)) (log : List Batch) : Type 0 where
  pub log_of_it : IsUntornLog block_bytes is_full blocks log → IsLog block_bytes is_full blocks log
  pub whole : IsUntornLog block_bytes false blocks log → IsWholeLog block_bytes blocks log
  pub of_whole : IsWholeLog block_bytes blocks log → IsUntornLog block_bytes is_full blocks log
  pub of_full : IsLog block_bytes true blocks log → IsUntornLog block_bytes true blocks log

abbrev pub UntornLog : Type 0
UntornLog = (block_bytes : ℕ) (is_full : Bool) (blocks : List (List ℕ)) (log : List Batch) → UntornExactly block_bytes is_full blocks log

-- outside a full zone: with no `has_tail` nothing stands after the batches, and with it a torn tail does
pub record WholeExactly (block_bytes : ℕ) (blocks : List (List ℕ)) (log : List Batch) : Type 0 where
  pub whole : has_tail blocks ≡ false → IsWholeLog block_bytes blocks log
  pub back : IsWholeLog block_bytes blocks log → has_tail blocks ≡ false
  pub torn : has_tail blocks ≡ true → IsTorn block_bytes (tail_of blocks)

abbrev pub NoTail : Type 0
NoTail = (block_bytes : ℕ) (blocks : List (List ℕ)) (log : List Batch) → block_bytes < 2 ^ 32 → IsLog block_bytes false blocks log
    → WholeExactly block_bytes blocks log

-- ---- changes

-- a batch written after batches with no tail is the last of them, and no tail is left
abbrev pub AppendBatch : Type 0
AppendBatch =
    (block_bytes : ℕ) (blocks : List (List ℕ)) (log : List Batch) (batch : Batch)
    → IsWholeLog block_bytes blocks log → IsBatch block_bytes batch → IsWholeLog block_bytes (blocks ++ batch_blocks block_bytes batch) (log ++ batch ∷ [])

-- the first j of a batch's blocks, but not all, leave the batches as they were; if j is not 0 they are a torn tail
pub record IsTornFront (block_bytes j : ℕ) (new : List (List ℕ)) (log : List Batch) : Type 0 where
  pub kept : IsLog block_bytes false new log
  pub torn : 1 ≤ j → has_tail new ≡ true

abbrev pub AppendFront : Type 0
AppendFront =
    (block_bytes j : ℕ) (blocks : List (List ℕ)) (log : List Batch) (batch : Batch)
    → block_bytes < 2 ^ 32 → IsWholeLog block_bytes blocks log → IsBatch block_bytes batch → j < length (batch_blocks block_bytes batch)
    → IsTornFront block_bytes j (blocks ++ take j (batch_blocks block_bytes batch)) log

-- zero blocks that fill up a zone without a tail keep its log
abbrev pub Finish : Type 0
Finish =
    (block_bytes rest : ℕ) (blocks : List (List ℕ)) (log : List Batch)
    → IsWholeLog block_bytes blocks log → IsLog block_bytes true (blocks ++ replicate rest (zero_block block_bytes)) log

-- ---- readings

-- blocks are read in one way
pub record IsOne (log other : List Batch) (ending end : Ending) : Type 0 where
  pub log_is : other ≡ log
  pub ending_is : end ≡ ending

abbrev pub OneReading : Type 0
OneReading =
    (block_bytes : ℕ) (is_full : Bool) (blocks : List (List ℕ)) (log other : List Batch) (ending end : Ending)
    → block_bytes < 2 ^ 32 → ReadsLog block_bytes is_full blocks log ending → ReadsLog block_bytes is_full blocks other end → IsOne log other ending end

-- and how they end says whether they have a log: they have none exactly where a fault is met, and the batches read are it elsewhere
abbrev pub ReadingSays : Type 0
ReadingSays =
    (block_bytes : ℕ) (is_full : Bool) (blocks : List (List ℕ)) (log : List Batch) (ending : Ending)
    → head_size ≤ block_bytes → block_bytes < 2 ^ 32 → AreBlocks block_bytes blocks
    → ReadsLog block_bytes is_full blocks log ending → SaysOfLog block_bytes is_full blocks log ending
