-- The batches that a list of blocks holds, and what may be after them.
use Rattle.std.specs.Prelude.{◌≡◌, ◌⊎◌, ℕ, zero, suc, ◌+◌, ◌<◌, ◌==◌, ◌&&◌, nat_lt, nat_le, if◌then◌else◌, Bool}
use Rattle.std.specs.Prelude.{true, false, List, [], ◌∷◌, ◌++◌, length, replicate, take, drop, slice_index}
use Rattle.std.specs.List.{flat_map, AllByRecursion}
use Rattle.batch_log.specs.declared.header.Entry.{Entry}
use Rattle.batch_log.specs.Header.{Heading, IsHeading, header_block}
use Rattle.batch_log.specs.Reading.{heading_in}

-- a batch: what its header says, and its data blocks
pub record Batch : Type 0 where
  pub heading : Heading
  pub body : List (List ℕ)

-- how many data blocks an entry has
abbrev pub one_unless : Bool → ℕ
one_unless true = 0
one_unless false = 1

-- how many data blocks follow a header: one for each entry that isn't a trim
abbrev pub data_count : List Entry → ℕ
data_count [] = 0
data_count (e ∷ es) = one_unless e.trim + data_count es

-- A batch that blocks of `block_bytes` bytes can hold. Its data blocks are taken as they are: that each has `block_bytes` bytes is the drive's matter.
pub record IsBatch (block_bytes : ℕ) (batch : Batch) : Type 0 where
  pub heading : IsHeading block_bytes batch.heading
  pub body : length batch.body ≡ data_count batch.heading.entries

-- the blocks of a batch: its header block, then its data
abbrev pub batch_blocks : ℕ → Batch → List (List ℕ)
batch_blocks block_bytes batch = header_block block_bytes batch.heading ∷ batch.body

-- how many blocks a batch takes, and a list of batches
abbrev pub batch_size : Batch → ℕ
batch_size batch = suc (data_count batch.heading.entries)

abbrev pub log_size : List Batch → ℕ
log_size [] = 0
log_size (batch ∷ log) = batch_size batch + log_size log

abbrev pub zero_block : ℕ → List ℕ
zero_block block_bytes = replicate block_bytes 0

-- the blocks are these batches, one after the other, and a tail
pub record BeginsWith (block_bytes : ℕ) (blocks : List (List ℕ)) (log : List Batch) (tail : List (List ℕ)) : Type 0 where
  pub encoded : blocks ≡ flat_map (batch_blocks block_bytes) log ++ tail
  pub batches : AllByRecursion (IsBatch block_bytes) log

-- the blocks begin with no batch
abbrev pub BeginsWithNoBatch : ℕ → List (List ℕ) → Type 0
BeginsWithNoBatch block_bytes blocks =
    (batch : Batch) (others : List (List ℕ)) → IsBatch block_bytes batch → blocks ≡ batch_blocks block_bytes batch ++ others → ⊥

-- A torn tail: a header block and fewer data blocks than its entries need, as an Append leaves that was stopped midway. It is no batch, and says nothing.
pub record IsTorn (block_bytes : ℕ) (tail : List (List ℕ)) : Type 0 where
  pub heading : Heading
  pub body : List (List ℕ)
  pub says : IsHeading block_bytes heading
  pub few : length body < data_count heading.entries
  pub encoded : tail ≡ header_block block_bytes heading ∷ body

-- what may be after the last batch: in a full zone zero blocks, elsewhere nothing, or a torn tail
abbrev pub IsTail : ℕ → Bool → List (List ℕ) → Type 0
IsTail block_bytes false tail = (tail ≡ []) ⊎ IsTorn block_bytes tail
IsTail block_bytes true tail = tail ≡ replicate (length tail) (zero_block block_bytes)

-- the blocks are the batches of a log and its tail
pub record IsLog (block_bytes : ℕ) (is_full : Bool) (blocks : List (List ℕ)) (log : List Batch) : Type 0 where
  pub tail : List (List ℕ)
  pub front : BeginsWith block_bytes blocks log tail
  pub end : IsTail block_bytes is_full tail

-- the blocks have no log
abbrev pub HaveNoLog : ℕ → Bool → List (List ℕ) → Type 0
HaveNoLog block_bytes is_full blocks = (log : List Batch) → IsLog block_bytes is_full blocks log → ⊥

-- the blocks are the batches of a log, and nothing is after them
abbrev pub IsWholeLog : ℕ → List (List ℕ) → List Batch → Type 0
IsWholeLog block_bytes blocks log = BeginsWith block_bytes blocks log []

-- what may be after the last batch if no Append was torn: in a full zone zero blocks, elsewhere nothing
abbrev pub IsUntornTail : ℕ → Bool → List (List ℕ) → Type 0
IsUntornTail block_bytes false tail = tail ≡ []
IsUntornTail block_bytes true tail = tail ≡ replicate (length tail) (zero_block block_bytes)

-- the blocks are the batches of a log, and no torn tail is after them
pub record IsUntornLog (block_bytes : ℕ) (is_full : Bool) (blocks : List (List ℕ)) (log : List Batch) : Type 0 where
  pub tail : List (List ℕ)
  pub front : BeginsWith block_bytes blocks log tail
  pub end : IsUntornTail block_bytes is_full tail

-- ---- the batches, read
--
-- A list of blocks has at most one log, and these functions find it: if any, `log_of` is it. Where there is none they give some list.

abbrev pub batch_in : List ℕ → List (List ℕ) → Batch
batch_in block others = record { heading = heading_in block; body = take (data_count (heading_in block).entries) others }

-- a block that begins as a header does, with as many data blocks after it as its entries need
abbrev pub begins_batch : List ℕ → List (List ℕ) → Bool
begins_batch block others = slice_index block 0 == 0x5a && nat_le (data_count (heading_in block).entries) (length others)

-- the batches from the first block on that isn't skipped: the data of a batch is skipped by count and never looked at
abbrev pub log_from : ℕ → List (List ℕ) → List Batch
log_from skip [] = []
log_from (suc skip) (block ∷ blocks) = log_from skip blocks
log_from zero (block ∷ blocks) =
    if begins_batch block blocks then batch_in block blocks ∷ log_from (data_count (heading_in block).entries) blocks else []

abbrev pub log_of : List (List ℕ) → List Batch
log_of blocks = log_from 0 blocks

-- what is after the batches
abbrev pub tail_of : List (List ℕ) → List (List ℕ)
tail_of blocks = drop (log_size (log_of blocks)) blocks

-- whether more blocks are there than the batches take
abbrev pub has_tail : List (List ℕ) → Bool
has_tail blocks = nat_lt (log_size (log_of blocks)) (length blocks)
