-- What the parts of a disk's calls change, of a drive and the tables that agree with it.
use Rattle.std.specs.Prelude.{◌≡◌, ◌⊎◌, ℕ, ◌<◌, ◌≤◌, ◌+◌, ◌*◌, Bool, true, false, IsFalse, IsTrue, List, length, slice_index_or, Option, Some, None, take, Result, Ok, Err}
use Rattle.zone_states.specs.declared.geometry.Geometry.{Geometry}
use Rattle.drive_port.specs.Drive.{DriveState}
use Rattle.drive_port.specs.declared.device.Halt.{Halt}
use Rattle.drive_port.specs.declared.device.Halt.TheVariants as halt
use Rattle.batch_log.specs.Log.{zero_block}
use Rattle.logical_map.specs.declared.place.Place.{Place}
use Rattle.logical_map.specs.declared.place.Place.TheVariants as places
use Rattle.zone_choice.specs.declared.roles.Filling.{Filling}
use Rattle.zone_choice.specs.Agreement.{MountedView, mounted, mounted_array}
use Rattle.drive_array.specs.ZoneLogs.{drive_logs}
use Rattle.zone_choice.specs.Changes.{KeepsArray, sequence_end}
use Rattle.drive_array.specs.Mountable.{IsMountable}
use Rattle.drive_array.specs.Reserve.{batch_most}
use Rattle.zone_choice.specs.Roles.{IsLowestEmpty, empty_count, next_of, promoted, taken}
use Rattle.drive_array.specs.Sizes.{extended, greatest}
use Rattle.zone_choice.specs.Tables.{TablesView, size_of}
use Rattle.zone_cleaner.specs.Answering.{all_clean_commands, clean_commands}
use Rattle.zone_cleaner.specs.declared.fault.CleanFault.{CleanFault}
use Rattle.zone_cleaner.specs.declared.fault.CleanFault.TheVariants as faults
use Rattle.zone_cleaner.specs.Clean.{CleanView, turns_left}
use Rattle.zone_cleaner.specs.Start.{AgreesWithClean, KeepsByCleaning}
use Rattle.zone_cleaner.specs.Clean.{trims}
use Rattle.zone_translator.specs.Flat.{IsFront, replaced}
use Rattle.zone_translator.specs.declared.fault.DiskFault.{DiskFault}
use Rattle.zone_translator.specs.declared.fault.DiskFault.TheVariants.{OutOfRange, OutOfMemory, Stopped, Spent, Unmounted, Smaller, Reserve, Damaged, Failed}

-- why a refusal came: the drive has stopped, or no sequence is left that a batch may have; of memory nothing can be said. A
-- drive that is clean gives no cause for `Damaged`.
abbrev pub IsCause : DriveState → ℕ → DiskFault → Type 0
IsCause drive next OutOfRange = ⊥
IsCause drive next Unmounted = ⊥
IsCause drive next Smaller = ⊥
IsCause drive next Reserve = ⊥
IsCause drive next Damaged = ⊥
IsCause drive next OutOfMemory = Unit {0}
IsCause drive next Failed = IsFalse drive.unfailing
IsCause drive next Stopped = drive.stopped ≡ true
IsCause drive next Spent = sequence_end drive.geometry ≤ next

-- what a halt of the drive is to a disk
abbrev pub disk_fault : Halt → DiskFault
disk_fault halt.Memory = OutOfMemory
disk_fault halt.Failed = Failed
disk_fault halt.Stopped = Stopped

-- what a fault of a clean is to a disk
abbrev pub cleaning_fault : CleanFault → DiskFault
cleaning_fault faults.OutOfMemory = OutOfMemory
cleaning_fault faults.Failed = Failed
cleaning_fault faults.Stopped = Stopped
cleaning_fault faults.Spent = Spent
cleaning_fault faults.Damaged = Damaged

-- at most how many commands a batch takes: the turns of a clean, a Finish, a Close, and the Append
abbrev pub batch_commands : Geometry → ℕ
batch_commands geometry = clean_commands geometry + 1

-- and where a command fails: a clean of each zone
abbrev pub failing_commands : Geometry → ℕ
failing_commands geometry = all_clean_commands geometry + 1

-- What a batch costs, whatever it answers.
pub record CostsBatch (old new : DriveState) : Type 0 where
  pub unfailing : IsTrue new.unfailing → new.completed ≤ old.completed + batch_commands old.geometry
  pub failing : new.completed ≤ old.completed + failing_commands old.geometry

-- the host zone has a free block for a header and one for data
abbrev pub HasRoom : DriveState → Filling → Type 0
HasRoom drive host = host.written + 2 ≤ drive.geometry.capacity

-- the host zone, which has that
pub record IsHost (disk : MountedView) (host : Filling) : Type 0 where
  pub host_is : disk.tables.roles.host ≡ Some host
  pub free : HasRoom disk.drive host

-- A zone became the host zone: the next zone, or the lowest empty one where there is no next zone, and another one is empty.
abbrev pub TakesHost : TablesView → Filling → TablesView → Type 0
TakesHost old host new =
    ((next_of old.roles.second ≡ Some host) × (new ≡ record old { roles = promoted old.roles }))
    ⊎ ((next_of old.roles.second ≡ None) × (2 ≤ empty_count old.roles) × IsLowestEmpty old.roles host.zone
    × (host ≡ record { zone = host.zone; written = 0; may_open = false }) × (new ≡ record old { roles = taken old.roles host.zone }))

-- the newest records of n blocks from a given one on are trims, or all have data
abbrev pub AreNamed : Bool → List Place → ℕ → ℕ → Type 0
AreNamed trim all first n = (block : ℕ) → first ≤ block → block < first + n → trims (slice_index_or all block places.None) ≡ Some trim

-- and those of all other blocks are trims, or have data, as before
pub record Names (trim : Bool) (old : List Place) (first n : ℕ) (new : List Place) : Type 0 where
  pub named : AreNamed trim new first n
  pub others : (block : ℕ) → (block < first) ⊎ (first + n ≤ block) → trims (slice_index_or new block places.None) ≡ trims (slice_index_or old block places.None)

-- as many turns are left of a clean as before, or fewer
abbrev pub NoMoreTurns : MountedView → Option CleanView → MountedView → Option CleanView → Type 0
NoMoreTurns before old after new =
    turns_left (batch_most before.drive.geometry) after.tables new ≤ turns_left (batch_most before.drive.geometry) before.tables old

-- What each part of a call keeps: a drive that can be mounted. No command is refused, and the next sequence rises by one with each batch that is appended.
pub record Keeps (before after : MountedView) : Type 0 where
  pub mountable : IsMountable after.drive after.tables.given
  pub given : after.tables.given ≡ before.tables.given
  pub geometry : after.drive.geometry ≡ before.drive.geometry
  pub refused : after.drive.refused ≡ before.drive.refused
  pub durable : after.drive.durable ≡ before.drive.durable
  pub next : after.tables.next + before.drive.appended ≡ before.tables.next + after.drive.appended
  pub appended : before.drive.appended ≤ after.drive.appended
  pub unfailing : IsTrue after.drive.unfailing → IsTrue before.drive.unfailing

-- These blocks were written into the array, as data or by trims, and a header says the disk's size.
pub record WritesBlocks (trim : Bool) (before after : MountedView) (clean : Option CleanView) (first : ℕ) (blocks : List (List ℕ)) : Type 0 where
  pub serves : AgreesWithClean after clean
  pub keeps : Keeps before after
  pub size : size_of after.tables ≡ size_of before.tables
  pub array : mounted_array after ≡ replaced (mounted_array before) first blocks
  pub names : Names trim before.tables.map.places first (length blocks) after.tables.map.places
  pub says : greatest (drive_logs after.drive) ≡ Some (size_of after.tables)
  pub early : after.tables.next ≤ sequence_end before.drive.geometry

-- the disk has that many blocks, a batch was appended whose header says so, and the blocks that are new are zeros
pub record Grows (before after : MountedView) (clean : Option CleanView) (size : ℕ) : Type 0 where
  pub serves : AgreesWithClean after clean
  pub keeps : Keeps before after
  pub size_is : size_of after.tables ≡ size
  pub array : mounted_array after ≡ extended (zero_block before.drive.geometry.block) size (mounted_array before)
  pub says : greatest (drive_logs after.drive) ≡ Some size
  pub appended : before.drive.appended < after.drive.appended
  pub early : after.tables.next ≤ sequence_end before.drive.geometry

-- What a drive that stopped on the way of a call leaves: it can be mounted. Tables and drive need not agree any more; the tables keep the disk's size.
pub record StopKeeps (before after : MountedView) : Type 0 where
  pub stopped : after.drive.stopped ≡ true
  pub keeps : Keeps before after
  pub size : size_of after.tables ≡ size_of before.tables

-- What is left where the host zone is sealed, by the answer: the array is the same. Where the drive stopped, the
-- tables did not change; but some agree with the drive that keep the array, too.
abbrev pub RetireLeaves : MountedView → MountedView → Result (Unit {0}) DiskFault → Type 0
RetireLeaves before after (Err Stopped) = (after.tables ≡ before.tables) × ((tables : TablesView) × KeepsArray before (mounted after.drive tables))
RetireLeaves before after (Err Damaged) = ⊥
RetireLeaves before after result = KeepsArray before after

-- what a part of a call leaves that writes nothing for the host: the array is the same, and the disk continues unless its drive stopped
abbrev pub RoomLeaves : {V : Type 0} → MountedView → MountedView → Option CleanView → Result V DiskFault → Type 0
RoomLeaves before after clean (Err Stopped) = KeepsByCleaning before after
RoomLeaves before after clean (Err Damaged) = ⊥
RoomLeaves before after clean result = KeepsByCleaning before after × AgreesWithClean after clean

-- what the next batch of a write of these blocks leaves: as many of them as it took are written; where the drive stopped, a front of them may be
abbrev pub WriteLeaves : Bool → MountedView → MountedView → Option CleanView → ℕ → List (List ℕ) → Result ℕ DiskFault → Type 0
WriteLeaves trim before after clean first blocks (Ok count) = WritesBlocks trim before after clean first (take count blocks)
WriteLeaves trim before after clean first blocks (Err Stopped) = StopKeeps before after × IsFront (mounted_array before) first blocks (mounted_array after)
WriteLeaves trim before after clean first blocks (Err Damaged) = ⊥
WriteLeaves trim before after clean first blocks (Err fault) = KeepsByCleaning before after × AgreesWithClean after clean

-- what a growth to a size leaves: the disk has it; where the drive stopped, the array may have grown
abbrev pub GrowLeaves : MountedView → MountedView → Option CleanView → ℕ → Result (Unit {0}) DiskFault → Type 0
GrowLeaves before after clean size (Ok done) = Grows before after clean size
GrowLeaves before after clean size (Err Stopped) =
    StopKeeps before after × ((mounted_array after ≡ mounted_array before)
    ⊎ (mounted_array after ≡ extended (zero_block before.drive.geometry.block) size (mounted_array before)))
GrowLeaves before after clean size (Err Damaged) = ⊥
GrowLeaves before after clean size (Err fault) = KeepsByCleaning before after × AgreesWithClean after clean
