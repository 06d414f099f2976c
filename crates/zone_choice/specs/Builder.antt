-- The batch that is about to be appended.
use Rattle.std.specs.Prelude.{◌≡◌, ℕ, zero, suc, ◌+◌, ◌*◌, false, true, Bool, List, [], ◌∷◌, ◌++◌, length, drop, slice_set}
use Rattle.zone_states.specs.Zone.{cut_blocks}
use Rattle.batch_log.specs.declared.header.Entry.{Entry}
use Rattle.batch_log.specs.Header.{Heading, header_block}
use Rattle.batch_log.specs.Log.{Batch, data_count, one_unless}
use Rattle.logical_map.specs.declared.place.Place.{Place}
use Rattle.logical_map.specs.declared.place.Place.TheVariants as places

-- its heading, and the bytes of its blocks
pub record BuilderView : Type 0 where
  pub heading : Heading
  pub bytes : List ℕ

-- entries of that many blocks from one on, all of them trims or all with data
abbrev pub entries_from : Bool → ℕ → ℕ → List Entry
entries_from trim first zero = []
entries_from trim first (suc count) = record { block = first; trim = trim } ∷ entries_from trim (first + 1) count

abbrev pub data_entries : ℕ → ℕ → List Entry
data_entries first count = entries_from false first count

abbrev pub trim_entries : ℕ → ℕ → List Entry
trim_entries first count = entries_from true first count

-- a heading that names these entries too
abbrev pub naming : Heading → List Entry → Heading
naming heading entries = record heading { entries = heading.entries ++ entries }

-- the batch that these bytes are, where the first block is its header and the others are its data
abbrev pub built : ℕ → BuilderView → Batch
built block_bytes builder =
    record { heading = builder.heading; body = cut_blocks block_bytes (data_count builder.heading.entries) (drop block_bytes builder.bytes) }

-- the bytes are a header block, and as much data as its entries have
pub record IsBuilt (block_bytes : ℕ) (builder : BuilderView) : Type 0 where
  pub header : builder.bytes ≡ header_block block_bytes builder.heading ++ drop block_bytes builder.bytes
  pub data_length : length (drop block_bytes builder.bytes) ≡ data_count builder.heading.entries * block_bytes

-- ---- where the blocks of a batch are

-- a trim is at the header, data at its own address
abbrev pub entry_place : Bool → ℕ → ℕ → Place
entry_place true header address = places.Trimmed header
entry_place false header address = places.At address

-- the places of all blocks, after a batch whose header is at an address, where the data of these entries begins at another
abbrev pub placed : ℕ → ℕ → List Entry → List Place → List Place
placed header address [] all = all
placed header address (e ∷ es) all = slice_set (placed header (address + one_unless e.trim) es all) e.block (entry_place e.trim header address)
