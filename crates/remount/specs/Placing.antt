-- How a mount finds the place of each block's newest record from the headers that are kept.
use Rattle.std.specs.Prelude.{◌≡◌, ◌⊎◌, ℕ, ◌+◌, ◌-◌, ◌*◌, ◌^◌, ◌<◌, ◌≤◌, min, if◌then◌else◌}
use Rattle.std.specs.Prelude.{List, [], ◌∷◌, Contains, take, drop, length, slice_index_or}
use Rattle.std.specs.List.{AllByRecursion, flat_map}
use Rattle.logical_map.specs.declared.place.Place.{Place}
use Rattle.logical_map.specs.declared.place.Place.TheVariants as places
use Rattle.zone_choice.specs.Tables.{TablesView, size_of}
use Rattle.drive_survey.specs.declared.heads.Head.{Head}
use Rattle.drive_survey.specs.declared.records.KeptRecord.{KeptRecord}
use Rattle.drive_survey.specs.Heads.{HeadsView, no_heads}
use Rattle.drive_survey.specs.KeptRecords.{kept_entries, kept_records}
use Rattle.remount.specs.declared.tables.batches.ListedBatch.{ListedBatch}

-- ---- batches

-- the headers of a zone; of one that is missing none
abbrev pub heads_at : List HeadsView → ℕ → HeadsView
heads_at views zone = slice_index_or views zone no_heads

-- the entries of a batch
abbrev pub entries_listed : List HeadsView → ListedBatch → List ℕ
entries_listed views batch = take (batch.head.end - batch.before) (drop batch.before (heads_at views batch.zone).entries)

-- its records
abbrev pub records_listed : List HeadsView → ListedBatch → List KeptRecord
records_listed views batch = kept_entries batch.head.sequence batch.zone batch.head.offset 0 (entries_listed views batch)

-- those of these batches, one batch after the other
abbrev pub all_listed : List HeadsView → List ListedBatch → List KeptRecord
all_listed views batches = flat_map (records_listed views) batches

-- of each header the entries end at those of the header before, or after them
abbrev pub AreEndsInOrder : ℕ → List Head → Type 0
AreEndsInOrder from [] = Unit {0}
AreEndsInOrder from (head ∷ heads) = (from ≤ head.end) × AreEndsInOrder head.end heads

abbrev pub AreInOrder : List HeadsView → Type 0
AreInOrder views = AllByRecursion (λ (view : HeadsView). AreEndsInOrder 0 view.heads) views

-- the records of these batches are those of all zones
abbrev pub ListsAll : List HeadsView → List ListedBatch → Type 0
ListsAll views batches = AreInOrder views → all_listed views batches ≡ kept_records 0 views

-- ---- records are placed

-- where a record's data is or, of a trim, its header; an address past the last that a place can have stands for that one
abbrev pub kept_address : ℕ → KeptRecord → ℕ
kept_address zone_size r = min (r.zone * zone_size + r.offset) (2 ^ 63 - 2)

abbrev pub kept_place : ℕ → KeptRecord → Place
kept_place zone_size r = if r.trim then places.Trimmed (kept_address zone_size r) else places.At (kept_address zone_size r)

-- One of these records, of this block; none of them is a newer one of the block.
pub record IsLatest (rs : List KeptRecord) (block : ℕ) (r : KeptRecord) : Type 0 where
  pub among : Contains rs r
  pub block_is : r.block ≡ block
  pub newest : (s : KeptRecord) → Contains rs s → s.block ≡ block → s.sequence ≤ r.sequence

-- a block has no place, and none of these records is one of it; or it has the place of the newest of them
abbrev pub IsPlaceOf : ℕ → List KeptRecord → ℕ → Place → Type 0
IsPlaceOf zone_size rs block place =
    ((place ≡ places.None) × ((r : KeptRecord) → Contains rs r → r.block ≡ block → ⊥))
    ⊎ ((r : KeptRecord) × IsLatest rs block r × (place ≡ kept_place zone_size r))

-- and so of all blocks
abbrev pub PlacesNewest : ℕ → List KeptRecord → List Place → Type 0
PlacesNewest zone_size rs table = (block : ℕ) → block < length table → IsPlaceOf zone_size rs block (slice_index_or table block places.None)

-- none of these records is older than a sequence
abbrev pub NoneIsOlder : List KeptRecord → ℕ → Type 0
NoneIsOlder rs sequence = (r : KeptRecord) → Contains rs r → sequence ≤ r.sequence

-- the places may have changed, and all else is the same
pub record SameButPlaces (old new : TablesView) : Type 0 where
  pub size : size_of new ≡ size_of old
  pub zones : new.map.zones ≡ old.map.zones
  pub zone_size : new.map.zone_size ≡ old.map.zone_size
  pub given : new.given ≡ old.given
  pub unreadable : new.unreadable ≡ old.unreadable
