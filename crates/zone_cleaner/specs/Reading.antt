-- How the record of a block is read from the drive, and gathered.
use Rattle.std.specs.Prelude.{◌≡◌, ℕ, ◌+◌, ◌<◌, ◌≤◌, ◌++◌, true, IsFalse, IsTrue, List, [], ◌∷◌, length, Option, Some, slice_index_or}
use Rattle.drive_port.specs.Contents.{SameContents}
use Rattle.drive_port.specs.Drive.{DriveState}
use Rattle.logical_map.specs.declared.place.Place.{Place}
use Rattle.logical_map.specs.declared.place.Place.TheVariants as places
use Rattle.zone_choice.specs.Agreement.{Agrees, MountedView, mounted_array}
use Rattle.zone_choice.specs.Changes.{KeepsArray}
use Rattle.zone_choice.specs.Sane.{KeepsShape}
use Rattle.zone_choice.specs.Tables.{size_of}
use Rattle.zone_cleaner.specs.declared.fault.CleanFault.{CleanFault}
use Rattle.zone_cleaner.specs.declared.fault.CleanFault.TheVariants as faults
use Rattle.zone_cleaner.specs.LiveRecords.{LiveRecord, live_content}

-- One Read was sent, or none, whatever it returned: the tables are the same.
pub record OnlyAsks (before after : MountedView) : Type 0 where
  pub shape : KeepsShape before.drive after.drive
  pub tables : after.tables ≡ before.tables
  pub completed : after.drive.completed ≤ before.drive.completed + 1

-- The same, but that data which could not be read may be noted, once a command failed.
pub record AsksAndNotes (before after : MountedView) : Type 0 where
  pub shape : KeepsShape before.drive after.drive
  pub tables : after.tables ≡ record before.tables { unreadable = after.tables.unreadable }
  pub readable : IsTrue after.drive.unfailing → after.tables.unreadable ≡ before.tables.unreadable
  pub completed : after.drive.completed ≤ before.drive.completed + 1

-- a block of that many bytes comes after these
abbrev pub AddsBlock : ℕ → List ℕ → List ℕ → Type 0
AddsBlock block_bytes old new = (bytes : List ℕ) × (new ≡ old ++ bytes) × (length bytes ≡ block_bytes)

-- a record of this block comes after those that were gathered
abbrev pub AddsRecord : ℕ → List LiveRecord → List LiveRecord → Type 0
AddsRecord block old new = (content : Option (List ℕ)) × (new ≡ old ++ record { block = block; content = content } ∷ [])

-- tables and drive agree, and the newest record of a block is stored at this place
pub record IsStoredAt (disk : MountedView) (block : ℕ) (at : Place) : Type 0 where
  pub agrees : Agrees disk
  pub in_range : block < size_of disk.tables
  pub place : at ≡ slice_index_or disk.tables.map.places block places.None

-- the record of a block that is stored at a place
abbrev pub live_record : MountedView → ℕ → Place → LiveRecord
live_record disk block at = record { block = block; content = live_content (mounted_array disk) block at }

-- and that of one whose data is stored
abbrev pub data_record : MountedView → ℕ → LiveRecord
data_record disk block = record { block = block; content = Some (slice_index_or (mounted_array disk) block []) }

-- One Read was sent, or none: the tables, the contents and the array are the same.
pub record OnlyReads (before after : MountedView) : Type 0 where
  pub kept : KeepsArray before after
  pub tables : after.tables ≡ before.tables
  pub same : SameContents before.drive after.drive
  pub completed : after.drive.completed ≤ before.drive.completed + 1

-- why a record is not read
abbrev pub IsGatherFault : DriveState → CleanFault → Type 0
IsGatherFault drive faults.OutOfMemory = Unit {0}
IsGatherFault drive faults.Failed = IsFalse drive.unfailing
IsGatherFault drive faults.Stopped = drive.stopped ≡ true
IsGatherFault drive faults.Spent = ⊥
IsGatherFault drive faults.Damaged = ⊥
