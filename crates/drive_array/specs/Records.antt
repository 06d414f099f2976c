-- The records of the batches of all zones, the newest of a block, and the array that they encode.
use Rattle.std.specs.Prelude.{◌≡◌, ℕ, suc, ◌+◌, ◌<◌, ◌≤◌, ◌==◌, nat_lt, if◌then◌else◌, Bool, true, false, List, [], ◌∷◌, ◌++◌}
use Rattle.std.specs.Prelude.{map, replicate, slice_set, slice_index_or, Contains, Option, Some, None, is_some, ◌*◌}
use Rattle.std.specs.List.{range_with_len, AllByRecursion}
use Rattle.logical_map.specs.declared.place.Place.{Place}
use Rattle.logical_map.specs.declared.place.Place.TheVariants as places
use Rattle.batch_log.specs.declared.header.Entry.{Entry}
use Rattle.batch_log.specs.Log.{Batch, batch_size, log_size, one_unless}

-- What one entry of one batch says of a block: its data, or none for a trim; and where that is, the data block or, of
-- a trim, the header block, by zone and by offset in the zone.
pub record Record : Type 0 where
  pub block : ℕ
  pub sequence : ℕ
  pub content : Option (List ℕ)
  pub zone : ℕ
  pub offset : ℕ

-- ---- the records of a list of logs

-- an entry's data, the k-th block of the body
abbrev pub entry_content : Bool → List (List ℕ) → ℕ → Option (List ℕ)
entry_content true body k = None
entry_content false body k = Some (slice_index_or body k [])

-- where it is, with the header at an offset
abbrev pub entry_offset : Bool → ℕ → ℕ → ℕ
entry_offset true header k = header
entry_offset false header k = header + 1 + k

abbrev pub record_of : ℕ → List (List ℕ) → ℕ → ℕ → ℕ → Entry → Record
record_of sequence body zone header k e =
    record { block = e.block; sequence = sequence; content = entry_content e.trim body k; zone = zone; offset = entry_offset e.trim header k }

-- the records of these entries, where k blocks of the body belong to the entries before them
abbrev pub entry_records : ℕ → List (List ℕ) → ℕ → ℕ → ℕ → List Entry → List Record
entry_records sequence body zone header k [] = []
entry_records sequence body zone header k (e ∷ es) =
    record_of sequence body zone header k e ∷ entry_records sequence body zone header (k + one_unless e.trim) es

abbrev pub batch_records : ℕ → ℕ → Batch → List Record
batch_records zone offset batch = entry_records batch.heading.sequence batch.body zone offset 0 batch.heading.entries

-- the records of a zone's log, whose first batch is at an offset
abbrev pub log_records : ℕ → ℕ → List Batch → List Record
log_records zone offset [] = []
log_records zone offset (batch ∷ log) = batch_records zone offset batch ++ log_records zone (offset + batch_size batch) log

-- the records of the logs of all zones: `zone` is the number of the first
abbrev pub records : ℕ → List (List Batch) → List Record
records zone [] = []
records zone (log ∷ logs) = log_records zone 0 log ++ records (suc zone) logs

-- ---- the newest record of a block

-- the one of two records with the greater sequence (of two with one sequence the first, but on a drive that can be mounted no two batches have one sequence)
abbrev pub newer : Option Record → Option Record → Option Record
newer None y = y
newer (Some x) None = Some x
newer (Some x) (Some y) = if nat_lt x.sequence y.sequence then Some y else Some x

-- the record of a block with the greatest sequence
abbrev pub newest : ℕ → List Record → Option Record
newest block [] = None
newest block (r ∷ rs) = newer (if r.block == block then Some r else None) (newest block rs)

-- a record is live: it is one of these, and none of its block has a greater sequence
pub record IsLive (rs : List Record) (r : Record) : Type 0 where
  pub among : Contains rs r
  pub greatest : AllByRecursion (λ other. other.block ≡ r.block → other.sequence ≤ r.sequence) rs

-- what `newest` finds: a live record of the block, or that there is no record of it
abbrev pub IsNewest : List Record → ℕ → Option Record → Type 0
IsNewest rs block (Some r) = (r.block ≡ block) × IsLive rs r
IsNewest rs block None = AllByRecursion (λ other. other.block ≡ block → ⊥) rs

-- ---- the array

-- of each of n blocks, what a function makes of its newest record
abbrev pub told : {X : Type 0} → (Option Record → X) → ℕ → List Record → List X
told f n rs = map (λ block. f (newest block rs)) (range_with_len 0 n)

-- what a record says of its block, and what is said of a block with no record: zeros
abbrev pub shown_content : ℕ → Option (List ℕ) → List ℕ
shown_content block_bytes (Some bytes) = bytes
shown_content block_bytes None = replicate block_bytes 0

abbrev pub shown : ℕ → Option Record → List ℕ
shown block_bytes (Some r) = shown_content block_bytes r.content
shown block_bytes None = replicate block_bytes 0

-- where a record's data is, or a trim's header: its address, in zones of `zone_size` addresses
abbrev pub place : ℕ → Option Record → Place
place zone_size None = places.None
place zone_size (Some r) = if is_some r.content then places.At (r.zone * zone_size + r.offset) else places.Trimmed (r.zone * zone_size + r.offset)

-- ---- changes of the logs

-- a zone's log with a batch more
abbrev pub append_log : List (List Batch) → ℕ → Batch → List (List Batch)
append_log logs zone batch = slice_set logs zone (slice_index_or logs zone [] ++ batch ∷ [])

-- the records that the batch brings
abbrev pub new_records : List (List Batch) → ℕ → Batch → List Record
new_records logs zone batch = batch_records zone (log_size (slice_index_or logs zone [])) batch

-- all logs except one zone's
abbrev pub without : List (List Batch) → ℕ → List (List Batch)
without logs zone = slice_set logs zone []

-- each record has a sequence below this one
abbrev pub AllBelow : ℕ → List Record → Type 0
AllBelow sequence rs = AllByRecursion (λ r. r.sequence < sequence) rs

-- a list in which these records' blocks have what a function makes of the records (of two records of one block the first)
abbrev pub over : {X : Type 0} → (Option Record → X) → List Record → List X → List X
over f [] xs = xs
over f (r ∷ rs) xs = slice_set (over f rs xs) r.block (f (Some r))
