-- The live records of a zone, as a clean gathers them and a Move repeats them.
use Rattle.std.specs.Prelude.{ℕ, ◌+◌, ◌==◌, if◌then◌else◌, true, false, List, [], ◌∷◌, map, slice_index_or, Option, Some, None}
use Rattle.batch_log.specs.declared.header.Entry.{Entry}
use Rattle.batch_log.specs.declared.header.Kind.TheVariants.{Move}
use Rattle.batch_log.specs.Log.{Batch}
use Rattle.logical_map.specs.Live.{lies_in}
use Rattle.logical_map.specs.declared.place.Place.{Place}
use Rattle.logical_map.specs.declared.place.Place.TheVariants as places

-- the newest record of a block: its data, or none for a trim
pub record LiveRecord : Type 0 where
  pub block : ℕ
  pub content : Option (List ℕ)

-- the record of a trim
abbrev pub trim_record : ℕ → LiveRecord
trim_record block = record { block = block; content = None }

-- what it says of a block that is at a place: the data that the array has, or none for a trim
abbrev pub live_content : List (List ℕ) → ℕ → Place → Option (List ℕ)
live_content array block (places.At address) = Some (slice_index_or array block [])
live_content array block place = None

-- the records of the blocks that are in a zone, in ascending order, where the first of these places is that of the block `first`
abbrev pub records_in : List (List ℕ) → ℕ → ℕ → ℕ → List Place → List LiveRecord
records_in array zone_size zone first [] = []
records_in array zone_size zone first (place ∷ all) =
    if lies_in zone_size zone place then record { block = first; content = live_content array first place } ∷ records_in array zone_size zone (first + 1) all
    else records_in array zone_size zone (first + 1) all

-- all records except one block's
abbrev pub without_block : ℕ → List LiveRecord → List LiveRecord
without_block block [] = []
without_block block (r ∷ rs) = if block == r.block then rs else r ∷ without_block block rs

-- all except records of the blocks that these entries name
abbrev pub without_all : List Entry → List LiveRecord → List LiveRecord
without_all [] rs = rs
without_all (e ∷ es) rs = without_all es (without_block e.block rs)

-- ---- the Move that repeats them

abbrev pub gathered_entry : ℕ → Option (List ℕ) → Entry
gathered_entry block None = record { block = block; trim = true }
gathered_entry block (Some bytes) = record { block = block; trim = false }

abbrev pub gathered_entries : List LiveRecord → List Entry
gathered_entries rs = map (λ r. gathered_entry r.block r.content) rs

-- the data blocks: one for each record that has data
abbrev pub with_data : Option (List ℕ) → List (List ℕ) → List (List ℕ)
with_data None blocks = blocks
with_data (Some bytes) blocks = bytes ∷ blocks

abbrev pub gathered_data : List LiveRecord → List (List ℕ)
gathered_data [] = []
gathered_data (r ∷ rs) = with_data r.content (gathered_data rs)

-- a Move of records from a zone, on a disk of this size
abbrev pub gathered_move : ℕ → ℕ → ℕ → List LiveRecord → Batch
gathered_move size sequence source rs =
    record { heading = record { kind = Move; sequence = sequence; source = source; size = Some size; entries = gathered_entries rs }; body = gathered_data rs }
