-- A list of blocks that are written or trimmed together, and the batches that a disk makes of it.
use Rattle.std.specs.Prelude.{◌≡◌, ◌≢◌, ◌⊎◌, ℕ, ◌+◌, ◌*◌, ◌<◌, ◌≤◌, Bool, true, false, List, [], ◌∷◌, length, take, drop, slice_index_or, Option, Some, Result, Ok, Err, nat_eq, map}
use Rattle.std.specs.List.{AllByRecursion, IsDistinct}
use Rattle.zone_states.specs.declared.geometry.Geometry.{Geometry}
use Rattle.zone_states.specs.Zone.{cut_blocks}
use Rattle.batch_log.specs.declared.header.Entry.{Entry}
use Rattle.batch_log.specs.declared.header.Kind.TheVariants.{Host}
use Rattle.batch_log.specs.Header.{Heading}
use Rattle.batch_log.specs.Log.{data_count, one_unless, zero_block}
use Rattle.logical_map.specs.declared.place.Place.{Place}
use Rattle.logical_map.specs.declared.place.Place.TheVariants as places
use Rattle.zone_choice.specs.declared.roles.Filling.{Filling}
use Rattle.zone_choice.specs.Agreement.{MountedView, mounted_array}
use Rattle.zone_choice.specs.Builder.{BuilderView, IsBuilt, built}
use Rattle.zone_choice.specs.Changes.{CanPlace, sequence_end, told_over}
use Rattle.drive_array.specs.Reserve.{batch_most}
use Rattle.drive_array.specs.Sizes.{greatest}
use Rattle.drive_array.specs.ZoneLogs.{drive_logs}
use Rattle.zone_choice.specs.Tables.{size_of}
use Rattle.zone_cleaner.specs.Clean.{CleanView}
use Rattle.zone_cleaner.specs.Start.{AgreesWithClean, KeepsByCleaning}
use Rattle.zone_cleaner.specs.Clean.{trims}
use Rattle.zone_translator.specs.declared.list.ListRest.{ListRest}
use Rattle.zone_translator.specs.declared.list.Taken.{Taken}
use Rattle.zone_translator.specs.declared.fault.DiskFault.{DiskFault}
use Rattle.zone_translator.specs.declared.fault.DiskFault.TheVariants.{Stopped, Damaged}
use Rattle.zone_translator.specs.declared.status.DiskStatus.TheVariants as statuses
use Rattle.zone_translator.specs.Calls.{status_left}
use Rattle.zone_translator.specs.Changes.{IsCause, Keeps, StopKeeps}
use Rattle.zone_translator.specs.Flat.{IsListFront, Put, put_all}
use Rattle.zone_translator.specs.View.{DiskView, disk_array, disk_places, disk_size, next_sequence, size_on}

-- ---- what a list writes

-- what a block gets that is named: zeros if it is trimmed, and else the first of the data that are left
abbrev pub entry_data : ℕ → Bool → List (List ℕ) → List ℕ
entry_data block_bytes true bodies = zero_block block_bytes
entry_data block_bytes false bodies = slice_index_or bodies 0 []

-- the blocks of these entries, with the data of those that are not trimmed
abbrev pub puts_of : ℕ → List Entry → List (List ℕ) → List Put
puts_of block_bytes [] bodies = []
puts_of block_bytes (e ∷ es) bodies =
    record { block = e.block; content = entry_data block_bytes e.trim bodies } ∷ puts_of block_bytes es (drop (one_unless e.trim) bodies)

-- the same of data that are bytes
abbrev pub puts_from : ℕ → List Entry → List ℕ → List Put
puts_from block_bytes entries bytes = puts_of block_bytes entries (cut_blocks block_bytes (data_count entries) bytes)

-- the blocks that these entries name
abbrev pub blocks_named : List Entry → List ℕ
blocks_named entries = map (λ (e : Entry). e.block) entries

-- the block that the last of them names
abbrev pub last_block : List Entry → ℕ
last_block [] = 0
last_block (e ∷ []) = e.block
last_block (e ∷ f ∷ es) = last_block (f ∷ es)

-- ---- what is left of it

-- the blocks that are left
abbrev pub left_puts : Geometry → ListRest → List Put
left_puts geometry left = puts_from geometry.block left.entries.now left.bytes.now

-- A list can be written: it names a block at least and none twice, all are in range, and the data are whole blocks.
pub record CanPutAll (disk : MountedView) (left : ListRest) : Type 0 where
  pub some : 1 ≤ length left.entries.now
  pub in_range : AllByRecursion (λ (e : Entry). e.block < size_of disk.tables) left.entries.now
  pub distinct : IsDistinct nat_eq (blocks_named left.entries.now)
  pub whole : length left.bytes.now ≡ data_count left.entries.now * disk.drive.geometry.block

-- of a list a front was taken, of one entry at least
pub record IsFrontOf (entries : List Entry) (taken : Taken) : Type 0 where
  pub some : 1 ≤ taken.entries
  pub few : taken.entries ≤ length entries
  pub data_is : taken.blocks ≡ data_count (take taken.entries entries)

-- A batch takes that front, and it is as long as it can be: by what an Append moves and a header names, and by the room
-- of the host zone after the header.
pub record TakesMost (geometry : Geometry) (host : Filling) (entries : List Entry) (taken : Taken) : Type 0 where
  pub front : IsFrontOf entries taken
  pub most : taken.entries ≤ batch_most geometry
  pub room : host.written + 1 + taken.blocks ≤ geometry.capacity
  pub longest : (taken.entries ≡ length entries) ⊎ (taken.entries ≡ batch_most geometry) ⊎ (host.written + 1 + taken.blocks ≡ geometry.capacity)

-- the heading of the next batch of the host that has these entries
abbrev pub listed_heading : MountedView → List Entry → Heading
listed_heading disk entries = record { kind = Host; sequence = disk.tables.next; source = 0; size = Some (size_of disk.tables); entries = entries }

-- The next batch of a list: it can be appended to the host zone, and says the first blocks of what is left.
pub record IsNextListed (disk : MountedView) (host : Filling) (left : ListRest) (builder : BuilderView) (count : ℕ) : Type 0 where
  pub built_is : IsBuilt disk.drive.geometry.block builder
  pub can : CanPlace disk host.zone (built disk.drive.geometry.block builder)
  pub some : 1 ≤ count
  pub few : count ≤ length (left_puts disk.drive.geometry left)
  pub size : builder.heading.size ≡ Some (size_of disk.tables)
  pub entries : builder.heading.entries ≡ take count left.entries.now
  pub tells : told_over disk.drive.geometry.block (built disk.drive.geometry.block builder) (mounted_array disk)
      ≡ put_all (mounted_array disk) (take count (left_puts disk.drive.geometry left))

-- ---- what a batch of it leaves

-- The newest records of the blocks of these entries are trims, or have data, as the entries say; those of all other
-- blocks are trims, or have data, as before.
pub record NamesAll (entries : List Entry) (old new : List Place) : Type 0 where
  pub named : AllByRecursion (λ (e : Entry). trims (slice_index_or new e.block places.None) ≡ Some e.trim) entries
  pub others : (block : ℕ) → AllByRecursion (λ (e : Entry). e.block ≢ block) entries
      → trims (slice_index_or new block places.None) ≡ trims (slice_index_or old block places.None)

-- these blocks were written into the array, as data or by trims, and a header says the disk's size
pub record PutsAll (entries : List Entry) (puts : List Put) (before after : MountedView) (clean : Option CleanView) : Type 0 where
  pub serves : AgreesWithClean after clean
  pub keeps : Keeps before after
  pub size : size_of after.tables ≡ size_of before.tables
  pub array : mounted_array after ≡ put_all (mounted_array before) puts
  pub names : NamesAll entries before.tables.map.places after.tables.map.places
  pub says : greatest (drive_logs after.drive) ≡ Some (size_of after.tables)
  pub early : after.tables.next ≤ sequence_end before.drive.geometry

-- what the next batch of a list leaves: as many of its blocks as it took are written; where the drive stopped, a front of them may be
abbrev pub ListedLeaves : MountedView → ListRest → Result Taken DiskFault → MountedView → Option CleanView → Type 0
ListedLeaves before left (Ok taken) after clean =
    PutsAll (take taken.entries left.entries.now) (take taken.entries (left_puts before.drive.geometry left)) before after clean
ListedLeaves before left (Err Stopped) after clean =
    StopKeeps before after × IsListFront (mounted_array before) (left_puts before.drive.geometry left) (mounted_array after)
ListedLeaves before left (Err Damaged) after clean = ⊥
ListedLeaves before left (Err fault) after clean = KeepsByCleaning before after × AgreesWithClean after clean

-- ---- the calls of a disk

-- the blocks that a list of entries writes, with these data
abbrev pub list_puts : DiskView → List Entry → List ℕ → List Put
list_puts disk entries bytes = puts_from disk.drive.geometry.block entries bytes

-- One batch of a list took as many of the blocks that are left: they are in the array, and their records on the drive.
pub record PutSome (old : DiskView) (left : ListRest) (new : DiskView) (taken : Taken) : Type 0 where
  pub front : IsFrontOf left.entries.now taken
  pub array : disk_array new ≡ put_all (disk_array old) (take taken.entries (left_puts old.drive.geometry left))
  pub names : NamesAll (take taken.entries left.entries.now) (disk_places old) (disk_places new)
  pub says : size_on new ≡ Some (disk_size new)
  pub early : next_sequence new ≤ sequence_end old.drive.geometry
  pub serving : new.status ≡ statuses.Serving

-- A batch of a list was refused: after a stop a front of the blocks that are left may be in the array, otherwise none.
pub record RefusedPuts (old : DiskView) (left : ListRest) (new : DiskView) (fault : DiskFault) : Type 0 where
  pub status : new.status ≡ status_left fault
  pub front : IsListFront (disk_array old) (left_puts old.drive.geometry left) (disk_array new)
  pub cause : IsCause new.drive (next_sequence new) fault
