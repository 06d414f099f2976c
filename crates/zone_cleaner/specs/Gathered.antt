-- Gathered records, as they are kept: of which block each is, and where its data is in the Move that takes them.
use Rattle.std.specs.Prelude.{◌≡◌, ℕ, ◌+◌, ◌≤◌, not, List, [], drop, length, map, take, Option, None, Some, IfSome, is_some}
use Rattle.std.specs.List.{AllByRecursion, concat}
use Rattle.std.specs.Option.{option_map}
use Rattle.batch_log.specs.declared.header.Entry.{Entry}
use Rattle.batch_log.specs.declared.header.Kind.TheVariants.{Move}
use Rattle.batch_log.specs.Header.{Heading}
use Rattle.zone_choice.specs.Builder.{BuilderView}
use Rattle.zone_cleaner.specs.LiveRecords.{LiveRecord, gathered_data}

pub record GatheredView : Type 0 where
  pub records : List LiveRecord
  pub block_bytes : ℕ
  pub batch : BuilderView

-- the block at a position of these bytes
abbrev pub block_from : ℕ → List ℕ → ℕ → List ℕ
block_from block_bytes bytes position = take block_bytes (drop position bytes)

-- the records of these blocks: each with the block of data that is at its position, or a trim
abbrev pub gathered_records : ℕ → List ℕ → List (ℕ × Option ℕ) → List LiveRecord
gathered_records block_bytes bytes blocks = map (λ b. record { block = b.0; content = option_map (block_from block_bytes bytes) b.1 }) blocks

-- their data, one after the other
abbrev pub data_bytes : ℕ → List ℕ → List (ℕ × Option ℕ) → List ℕ
data_bytes block_bytes bytes blocks = concat (gathered_data (gathered_records block_bytes bytes blocks))

-- at each of these positions there is a whole block, after the header's
abbrev pub AreWithin : ℕ → ℕ → List (ℕ × Option ℕ) → Type 0
AreWithin block_bytes end blocks = AllByRecursion (λ b. IfSome b.1 (λ position. (block_bytes ≤ position) × (position + block_bytes ≤ end))) blocks

-- all blocks are this long
abbrev pub AreOfLength : ℕ → List (List ℕ) → Type 0
AreOfLength block_bytes blocks = AllByRecursion (λ bytes. length bytes ≡ block_bytes) blocks

-- how a batch names a block with data, or a trim
abbrev pub entry_for : ℕ → Option ℕ → Entry
entry_for block position = record { block = block; trim = not (is_some position) }

abbrev pub entries_for : List (ℕ × Option ℕ) → List Entry
entries_for blocks = map (λ b. entry_for b.0 b.1) blocks

-- what the header of their Move says
abbrev pub move_heading : ℕ → ℕ → ℕ → List Entry → Heading
move_heading size sequence source entries = record { kind = Move; sequence = sequence; source = source; size = Some size; entries = entries }

-- the bytes of a record's data; a trim has none
abbrev pub bytes_in : Option (List ℕ) → List ℕ
bytes_in None = []
bytes_in (Some bytes) = bytes

-- the block at a position, if any
abbrev pub stored_bytes : ℕ → List ℕ → Option ℕ → List ℕ
stored_bytes block_bytes bytes position = bytes_in (option_map (block_from block_bytes bytes) position)
