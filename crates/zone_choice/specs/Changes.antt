-- What changes of a mounted disk: nothing that its array tells, or one batch more.
use Rattle.std.specs.Prelude.{◌≡◌, ◌⊎◌, ℕ, ◌≤◌, ◌<◌, ◌+◌, ◌-◌, ◌*◌, ◌^◌, ◌==◌, nat_lt, if◌then◌else◌, true, IsFalse, IsTrue, List, length, Option, Some, None, Result, Ok, Err}
use Rattle.std.specs.List.{AllByRecursion}
use Rattle.std.specs.Option.{option_map}
use Rattle.zone_states.specs.declared.geometry.Geometry.{Geometry}
use Rattle.drive_port.specs.Drive.{DriveState}
use Rattle.drive_port.specs.Contents.{SameContents, content_at, contents}
use Rattle.drive_port.specs.declared.calls.PortFault.{PortFault}
use Rattle.drive_port.specs.declared.calls.PortFault.TheVariants as port
use Rattle.drive_port.specs.declared.device.Halt.{Halt}
use Rattle.drive_port.specs.declared.device.Halt.TheVariants as halt
use Rattle.batch_log.specs.declared.header.Entry.{Entry}
use Rattle.batch_log.specs.Header.{IsHeading}
use Rattle.batch_log.specs.Log.{Batch, batch_size, zero_block}
use Rattle.logical_map.specs.Places.{IsReady}
use Rattle.logical_map.specs.declared.place.Place.{Place}
use Rattle.logical_map.specs.declared.place.Place.TheVariants as places
use Rattle.zone_choice.specs.declared.roles.Filling.{Filling}
use Rattle.zone_choice.specs.Agreement.{Agrees, MountedView, mounted, mounted_array}
use Rattle.drive_array.specs.ZoneLogs.{drive_logs, encoded}
use Rattle.drive_array.specs.Mountable.{IsMountable}
use Rattle.drive_array.specs.Repair.{HasAtMost}
use Rattle.zone_choice.specs.Builder.{BuilderView, built, placed}
use Rattle.drive_array.specs.Reserve.{FitsReserve, batch_most}
use Rattle.drive_array.specs.Sizes.{extended, size_or}
use Rattle.drive_array.specs.Spare.{HasSpare}
use Rattle.drive_array.specs.Records.{append_log, batch_records, over, shown}
use Rattle.zone_choice.specs.Roles.{RolesView, closed, closed_beside, empty_count, is_filling_at, is_sealed_at, open_beside, second_with, wrote}
use Rattle.zone_choice.specs.Tables.{TablesView, size_of}

-- The tables agree with the drive as before, and the logs, the array, the map and the next sequence are the same; no
-- command was refused, and nothing was appended. A zone that is kept empty stays so, and so does one that is sealed; the
-- second zone that is being filled is the same, except for whether it may be open.
pub record KeepsArray (before after : MountedView) : Type 0 where
  pub agrees : Agrees after
  pub logs : drive_logs after.drive ≡ drive_logs before.drive
  pub array : mounted_array after ≡ mounted_array before
  pub places : after.tables.map.places ≡ before.tables.map.places
  pub next : after.tables.next ≡ before.tables.next
  pub given : after.tables.given ≡ before.tables.given
  pub spare : 1 ≤ empty_count before.tables.roles → 1 ≤ empty_count after.tables.roles
  pub sealed : (zone : ℕ) → is_sealed_at before.tables.roles zone ≡ true → is_sealed_at after.tables.roles zone ≡ true
  pub second : option_map (second_with closed) after.tables.roles.second ≡ option_map (second_with closed) before.tables.roles.second
  pub geometry : after.drive.geometry ≡ before.drive.geometry
  pub refused : after.drive.refused ≡ before.drive.refused
  pub durable : after.drive.durable ≡ before.drive.durable
  pub appended : after.drive.appended ≡ before.drive.appended
  pub unfailing : IsTrue after.drive.unfailing → IsTrue before.drive.unfailing

-- the size that a disk has with a batch more, which says none below the disk's: that of the batch's header, or the disk's own where that says none
abbrev pub size_with : TablesView → Batch → ℕ
size_with tables batch = size_or (size_of tables) batch.heading.size

-- An array with what a batch says, whose size is none below the array's. It has the size that the header says, with
-- zeros in the blocks that are new; and of the batch's blocks it has the data of its data entries, zeros for its trims.
abbrev pub told_over : ℕ → Batch → List (List ℕ) → List (List ℕ)
told_over block_bytes batch array =
    over (shown block_bytes) (batch_records 0 0 batch) (extended (zero_block block_bytes) (size_or (length array) batch.heading.size) array)

-- the address of the block that is written next to a zone
abbrev pub next_address : DriveState → ℕ → ℕ
next_address drive zone = zone * drive.geometry.size + length (content_at (contents drive.zones) zone).blocks

-- the places of all blocks with a batch more, whose header is written next to a zone: its own blocks, and of
-- the others what they were, none for blocks that are new
abbrev pub placed_with : MountedView → ℕ → Batch → List Place
placed_with before zone batch =
    placed (next_address before.drive zone) (next_address before.drive zone + 1) batch.heading.entries
    (extended places.None (size_with before.tables batch) before.tables.map.places)

-- the batch that a builder holds, for this disk
abbrev pub built_for : MountedView → BuilderView → Batch
built_for disk builder = built disk.drive.geometry.block builder

-- ---- an open limit of 1

-- The roles with this zone as the only one that may be open, at an open limit of 1. At a greater limit they stay.
abbrev pub roles_alone : Geometry → RolesView → ℕ → RolesView
roles_alone geometry roles zone = if nat_lt 1 geometry.open then roles else closed_beside roles zone

-- how many commands close a zone that may be open: a full one is not
abbrev pub close_count : ℕ → Option Filling → ℕ
close_count capacity None = 0
close_count capacity (Some filling) = if filling.written == capacity then 0 else 1

-- how many commands close the zone beside this one
abbrev pub closes_beside : MountedView → ℕ → ℕ
closes_beside disk zone = close_count disk.drive.geometry.capacity (open_beside disk.tables.roles zone)

-- how many commands come before an Append to a zone: at an open limit of 1 a Close of the zone beside it, if that may be open
abbrev pub closes_before : MountedView → ℕ → ℕ
closes_before disk zone = if nat_lt 1 disk.drive.geometry.open then 0 else closes_beside disk zone

-- the tables, which say that the zone beside this one is closed
abbrev pub tables_closed : TablesView → ℕ → TablesView
tables_closed tables zone = record tables { roles = closed_beside tables.roles zone }

-- The tables agree with the drive, which holds what it did; no command was refused, and nothing was appended.
pub record KeepsContents (before after : MountedView) : Type 0 where
  pub agrees : Agrees after
  pub same : SameContents before.drive after.drive
  pub refused : after.drive.refused ≡ before.drive.refused
  pub durable : after.drive.durable ≡ before.drive.durable
  pub appended : after.drive.appended ≡ before.drive.appended
  pub unfailing : IsTrue after.drive.unfailing → IsTrue before.drive.unfailing

-- At an open limit of 1 the zone beside this one, which might be open, was closed, and the tables say so.
pub record ClosesBeside (before after : MountedView) (zone : ℕ) : Type 0 where
  pub limit : before.drive.geometry.open < 2
  pub other : Filling
  pub beside : open_beside before.tables.roles zone ≡ Some other
  pub tables : after.tables ≡ tables_closed before.tables zone
  pub kept : KeepsContents before after

-- What a Close of the zone beside this one leaves, by its answer: nothing changed if no zone beside may be open. The
-- tables did not change; once the zone is closed, those agree with the drive that say so.
abbrev pub CloseBesideLeaves : DriveState → TablesView → ℕ → DriveState → Result (Unit {0}) Halt → Type 0
CloseBesideLeaves old tables zone new (Ok done) =
    ((open_beside tables.roles zone ≡ None) × (new ≡ old))
    ⊎ ((other : Filling) × (open_beside tables.roles zone ≡ Some other) × KeepsContents (mounted old tables) (mounted new (tables_closed tables zone)))
CloseBesideLeaves old tables zone new (Err halt.Memory) = new ≡ old
CloseBesideLeaves old tables zone new (Err halt.Failed) = IsFalse new.unfailing × KeepsContents (mounted old tables) (mounted new tables)
CloseBesideLeaves old tables zone new (Err halt.Stopped) = (new.stopped ≡ true) × KeepsContents (mounted old tables) (mounted new tables)

-- what is left where a zone is to be the only one that may be open, at an open limit of 1, by the answer
abbrev pub AloneLeaves : MountedView → MountedView → ℕ → Result (Unit {0}) Halt → Type 0
AloneLeaves before after zone (Ok done) =
    (after.tables.roles ≡ roles_alone before.drive.geometry before.tables.roles zone) × ((after ≡ before) ⊎ ClosesBeside before after zone)
AloneLeaves before after zone (Err halt.Memory) = after ≡ before
AloneLeaves before after zone (Err halt.Failed) = IsFalse after.drive.unfailing × (after.tables ≡ before.tables) × KeepsContents before after
AloneLeaves before after zone (Err halt.Stopped) = (after.drive.stopped ≡ true) × (after.tables ≡ before.tables) × KeepsContents before after

-- ---- a batch is appended

-- One batch was appended to a zone: it is the last of the zone's log, the tables agree with the drive, and the array is
-- the old one with what the batch says; no command was refused.
pub record Places (before after : MountedView) (zone : ℕ) (batch : Batch) : Type 0 where
  pub agrees : Agrees after
  pub logs : drive_logs after.drive ≡ append_log (drive_logs before.drive) zone batch
  pub size : size_of after.tables ≡ size_with before.tables batch
  pub places : after.tables.map.places ≡ placed_with before zone batch
  pub array : mounted_array after ≡ told_over before.drive.geometry.block batch (mounted_array before)
  pub next : after.tables.next ≡ before.tables.next + 1
  pub given : after.tables.given ≡ before.tables.given
  pub unreadable : after.tables.unreadable ≡ before.tables.unreadable
  pub roles : after.tables.roles ≡ wrote (roles_alone before.drive.geometry before.tables.roles zone) zone (batch_size batch)
  pub geometry : after.drive.geometry ≡ before.drive.geometry
  pub refused : after.drive.refused ≡ before.drive.refused
  pub durable : after.drive.durable ≡ before.drive.durable
  pub appended : after.drive.appended ≡ before.drive.appended + 1
  pub unfailing : IsTrue after.drive.unfailing → IsTrue before.drive.unfailing

-- Where the next sequence is this or greater, no batch is written any more: so sequences are left for the Moves that may
-- repair a torn zone, at most as many as a zone has blocks.
abbrev pub sequence_end : Geometry → ℕ
sequence_end geometry = 2 ^ 63 - geometry.capacity

-- What a batch needs to be appended to a zone. The zone is being filled and has room for it; the batch is the next one,
-- with a size not below the disk's and within the reserve, its blocks are the disk's and are ready to be placed.
pub record CanPlace (before : MountedView) (zone : ℕ) (batch : Batch) : Type 0 where
  pub agrees : Agrees before
  pub filling : is_filling_at before.tables.roles zone ≡ true
  pub heading : IsHeading before.drive.geometry.block batch.heading
  pub size : batch.heading.size ≡ Some (size_with before.tables batch)
  pub grows : size_of before.tables ≤ size_with before.tables batch
  pub reserve : FitsReserve before.drive.geometry (size_with before.tables batch)
  pub few : batch_size batch ≤ before.drive.geometry.transfer
  pub few_entries : HasAtMost (batch_most before.drive.geometry) batch
  pub room : length (content_at (contents before.drive.zones) zone).blocks + batch_size batch ≤ before.drive.geometry.capacity
  pub sequence : batch.heading.sequence ≡ before.tables.next
  pub next : before.tables.next < sequence_end before.drive.geometry
  pub in_range : AllByRecursion (λ (e : Entry). e.block < size_of before.tables) batch.heading.entries
  pub ready : AllByRecursion (λ (e : Entry). IsReady before.tables.map e.block) batch.heading.entries

-- what a drive encodes: its logs, and the array
pub record Encodes (drive : DriveState) (n : ℕ) (logs : List (List Batch)) (array : List (List ℕ)) : Type 0 where
  pub logs_are : drive_logs drive ≡ logs
  pub array_is : encoded drive n ≡ array

-- The drive stopped inside the Append of a batch, or before it or after it: it encodes what it did, or that with the
-- batch. If a zone is spare, it can be mounted. The tables are the same, but that they may say that the zone beside was
-- closed.
pub record StopsInside (before after : MountedView) (zone : ℕ) (batch : Batch) : Type 0 where
  pub stopped : after.drive.stopped ≡ true
  pub tables : (after.tables ≡ before.tables) ⊎ ((before.drive.geometry.open < 2) × (after.tables ≡ tables_closed before.tables zone))
  pub left : Encodes after.drive before.tables.given (drive_logs before.drive) (mounted_array before)
      ⊎ Encodes after.drive before.tables.given (append_log (drive_logs before.drive) zone batch)
      (told_over before.drive.geometry.block batch (mounted_array before))
  pub mountable : HasSpare before.drive.geometry.block before.tables.given (drive_logs after.drive) → IsMountable after.drive before.tables.given
  pub geometry : after.drive.geometry ≡ before.drive.geometry
  pub refused : after.drive.refused ≡ before.drive.refused
  pub durable : after.drive.durable ≡ before.drive.durable
  pub appended : after.drive.appended ≡ before.drive.appended
  pub unfailing : IsTrue after.drive.unfailing → IsTrue before.drive.unfailing

-- what an Append of a batch leaves, by its answer: where an allocation or a command fails, the zone beside may have been closed
abbrev pub BatchLeaves : MountedView → MountedView → ℕ → Batch → Result (Unit {0}) Halt → Type 0
BatchLeaves before after zone batch (Ok done) = Places before after zone batch
BatchLeaves before after zone batch (Err halt.Memory) = (after ≡ before) ⊎ ClosesBeside before after zone
BatchLeaves before after zone batch (Err halt.Failed) =
    IsFalse after.drive.unfailing × (((after.tables ≡ before.tables) × KeepsContents before after) ⊎ ClosesBeside before after zone)
BatchLeaves before after zone batch (Err halt.Stopped) = StopsInside before after zone batch

-- a fault of a command that was not refused
abbrev pub IsHalt : PortFault → Type 0
IsHalt (port.Refused status) = ⊥
IsHalt fault = Unit {0}

abbrev pub fault_halt : PortFault → Halt
fault_halt port.Stopped = halt.Stopped
fault_halt port.Failed = halt.Failed
fault_halt fault = halt.Memory
