-- What is true of a file while a drive is served from it.
use Rattle.std.specs.Prelude.{◌≡◌, ◌≢◌, ◌⊎◌, ℕ, ◌-◌, ◌*◌, ◌<◌, ◌≤◌, ◌==◌, nat_le, not, ◌||◌, Bool, true, false, if◌then◌else◌, Contains, IsTrue, List, [], ◌∷◌, length, map, Option, slice_index, slice_index_or}
use Rattle.std.specs.List.{AllByRecursion}
use Rattle.sqlite_disk.specs.Disk.{Only}
use Rattle.nvme_wire.specs.declared.command.Action.{Action}
use Rattle.nvme_wire.specs.declared.zone_state.ZoneState.TheVariants.{Offline}
use Rattle.zone_states.specs.declared.geometry.Geometry.{Geometry}
use Rattle.zone_states.specs.Stored.{StoredZone}
use Rattle.file_drive.specs.Head.{at_second, boot_in, shape_words}
use Rattle.file_drive.specs.Layout.{at_table, at_place, file_length, part, word_in}
use Rattle.file_drive.specs.Sums.{zone_sum}
use Rattle.file_drive.specs.Tables.{entry_of, flushed_table, flushed_zones, live_table, next_entries, word_of, words_in, zone_in, zones_in}
use Rattle.file_drive.specs.declared.boot.Boot.{Boot}
use Rattle.file_drive.specs.declared.entry.Entry.{Entry}

-- Zones in a file: the shape of their drive, the file, and what is known of each zone. Then the words of the last flush,
-- and the zones that may be found after a loss of power.
pub record FiledZones (F : Type 0) : Type 0 where
  pub shape : Geometry
  pub file : F
  pub entries : List Entry
  pub safe : List ℕ
  pub durable : List (List StoredZone)

-- the zones, as they are stored
abbrev pub filed : {F : Type 0} → (F → List ℕ) → FiledZones F → List StoredZone
filed seen zones = zones_in zones.shape (seen zones.file) 0 zones.entries

-- no more blocks are counted than a zone has
abbrev pub AreWithin : Geometry → List Entry → Type 0
AreWithin geometry entries = AllByRecursion (λ entry. entry.written ≤ geometry.capacity) entries

-- the other live table, and the other flushed one
abbrev pub spare_table : ℕ → ℕ
spare_table live = 1 - live

abbrev pub other_table : ℕ → ℕ
other_table flushed = 5 - flushed

-- the words of the tables that are not live: of the other live one, of the flushed one that is picked, and of the other
pub record Words : Type 0 where
  pub spare : List ℕ
  pub safe : List ℕ
  pub other : List ℕ

-- words that a table may have: each is the word of a zone, with no more blocks than a zone has
pub record AreWords (geometry : Geometry) (words : List ℕ) : Type 0 where
  pub said : map word_of (map entry_of words) ≡ words
  pub within : AreWithin geometry (map entry_of words)

-- what is known of a zone; past the last nothing is
abbrev pub entry_at : List Entry → ℕ → Entry
entry_at entries index = slice_index_or entries index (record { state = Offline; written = 0; second = false; sum = 0 })

-- what the last flush says of a zone
abbrev pub flushed_at : List ℕ → ℕ → Entry
flushed_at words index = entry_of (slice_index words index)

-- a zone with a number has the sum of the blocks that the file shows
abbrev pub is_summed : Geometry → List ℕ → ℕ → Entry → Entry → Bool
is_summed geometry file number flushed entry = zone_sum geometry.block flushed entry (zone_in geometry file number entry).bytes == entry.sum

-- The same of each zone, of which the last flush has these words.
abbrev pub AreSummed : Geometry → List ℕ → List ℕ → List Entry → Type 0
AreSummed geometry file words entries =
    (number : ℕ) → number < geometry.zones → (entry_at entries number).written ≤ geometry.capacity
    → is_summed geometry file number (flushed_at words number) (entry_at entries number) ≡ true

-- What a read shows: the live table that is picked says what is known, with the sums of what is shown, and the other tables have these words.
pub record IsServed (geometry : Geometry) (boot : Boot) (file : List ℕ) (entries : List Entry) (live flushed : ℕ) (words : Words) : Type 0 where
  pub long : length file ≡ file_length geometry
  pub head : words_in file 0 8 ≡ shape_words geometry
  pub boot_is : boot_in file ≡ boot
  pub live_is : live_table file ≡ live
  pub live_words : words_in file (at_table geometry live) geometry.zones ≡ map word_of entries
  pub spare_words : words_in file (at_table geometry (spare_table live)) geometry.zones ≡ words.spare
  pub flushed_is : flushed_table file ≡ flushed
  pub safe_words : words_in file (at_table geometry flushed) geometry.zones ≡ words.safe
  pub other_words : words_in file (at_table geometry (other_table flushed)) geometry.zones ≡ words.other
  pub summed : AreSummed geometry file words.safe entries

-- What a loss of power may leave: the same flushed table, and the zones that it counts.
pub record IsPromised (geometry : Geometry) (flushed : ℕ) (safe : List ℕ) (promised : List StoredZone) (file : List ℕ) : Type 0 where
  pub long : length file ≡ file_length geometry
  pub head : words_in file 0 8 ≡ shape_words geometry
  pub flushed_is : flushed_table file ≡ flushed
  pub safe_words : words_in file (at_table geometry flushed) geometry.zones ≡ safe
  pub zones : zones_in geometry file 0 (map entry_of safe) ≡ promised

-- What a system in another boot can open: a file of this shape, whose flushed table has words that a table may have.
pub record CanOpen (geometry : Geometry) (file : List ℕ) : Type 0 where
  pub long : length file ≡ file_length geometry
  pub head : words_in file 0 8 ≡ shape_words geometry
  pub words : AreWords geometry (words_in file (at_table geometry (flushed_table file)) geometry.zones)

-- whatever a loss of power leaves can be opened, and has zones that are durable
abbrev pub AllDurable : {F : Type 0} → (F → List ℕ → Type 0) → Geometry → F → List (List StoredZone) → Type 0
AllDurable may_leave geometry file durable = (bytes : List ℕ) → may_leave file bytes → CanOpen geometry bytes × Contains durable (flushed_zones geometry bytes)

-- The head of a file that is served names this boot, until a sync fails. Then whoever opens the file later, in any boot,
-- finds zones that are durable. Where a word could not be written, nothing is said of that.
pub record IsOwned {F : Type 0} (may_show : F → List ℕ → Type 0) (is_usable is_stuck : F → Bool) (geometry : Geometry) (boot named : Boot) (durable : List (List StoredZone)) (file : F) : Type 0 where
  pub owned : IsTrue (is_usable file) → named ≡ boot
  pub durable_is : is_usable file ≡ false → is_stuck file ≡ false → AllDurable may_show geometry file durable
  pub is_out : is_usable file ≡ false → is_stuck file ≡ false → (bytes : List ℕ) → may_show file bytes → word_in bytes at_second ≡ 0

-- what the last flush promised, as a read shows it
abbrev pub promised_zones : Geometry → List ℕ → List ℕ → List StoredZone
promised_zones geometry file safe = zones_in geometry file 0 (map entry_of safe)

-- What may be found after a loss of power: the zones of the last flush. If a flush failed while it picked its table, also
-- the zones of the other table.
abbrev pub durable_zones : Geometry → List ℕ → List ℕ → List ℕ → Bool → List (List StoredZone)
durable_zones geometry file safe other unsure =
    promised_zones geometry file safe ∷ (if unsure then promised_zones geometry file other ∷ [] else [])

-- all that a loss of power may leave is what the last flush promised
abbrev pub KeepsPromise : {F : Type 0} → (F → List ℕ) → (F → List ℕ → Type 0) → Geometry → F → ℕ → List ℕ → Type 0
KeepsPromise seen may_leave geometry file flushed safe =
    (bytes : List ℕ) → may_leave file bytes → IsPromised geometry flushed safe (promised_zones geometry (seen file) safe) bytes

-- The other flushed table has the words of the zones, and all is synced.
pub record IsReady {F : Type 0} (seen : F → List ℕ) (may_leave : F → List ℕ → Type 0) (zones : FiledZones F) : Type 0 where
  pub synced : Only (seen zones.file) (may_leave zones.file)
  pub words : words_in (seen zones.file) (at_table zones.shape (other_table (flushed_table (seen zones.file)))) zones.shape.zones ≡ map word_of zones.entries

-- A zone is not in the place where the last flush has it, or the flush has no more blocks of it. So what is written
-- behind its blocks is behind those of the flush, or elsewhere.
abbrev pub is_apart : Entry → Entry → Bool
is_apart flushed entry = (if flushed.second then not entry.second else entry.second) || nat_le flushed.written entry.written

abbrev pub IsApart : List ℕ → List Entry → ℕ → Type 0
IsApart words entries number = is_apart (flushed_at words number) (entry_at entries number) ≡ true

-- the same of each zone
abbrev pub AreApart : List ℕ → List Entry → Type 0
AreApart words entries = (number : ℕ) → number < length entries → IsApart words entries number

-- All blocks are the same, but for one place past its first ones.
abbrev pub KeepsOthers : Geometry → ℕ → ℕ → List ℕ → List ℕ → Type 0
KeepsOthers geometry place first old new =
    (other written : ℕ) → other < 2 * geometry.zones → written ≤ geometry.capacity → (other ≢ place) ⊎ (written ≤ first)
    → part new (at_place geometry other) (written * geometry.block) ≡ part old (at_place geometry other) (written * geometry.block)

-- The other live table has the words of the zones after an action on all of them, if there is one.
abbrev pub IsSpared : {F : Type 0} → (F → List ℕ) → Option Action → FiledZones F → Type 0
IsSpared seen action zones =
    let file = seen zones.file in
    words_in file (at_table zones.shape (spare_table (live_table file))) zones.shape.zones ≡ map word_of (next_entries action zones.safe zones.entries)
