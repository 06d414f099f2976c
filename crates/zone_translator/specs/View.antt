-- What a disk is seen as, and what its calls keep.
use Rattle.std.specs.Prelude.{◌≡◌, ℕ, ◌+◌, ◌*◌, ◌<◌, ◌≤◌, Bool, true, false, IsTrue, List, Option, count_by}
use Rattle.std.specs.Int.{div_ceil}
use Rattle.std.specs.List.{AllByRecursion}
use Rattle.drive_port.specs.Drive.{DriveState}
use Rattle.batch_log.specs.Log.{Batch}
use Rattle.zone_choice.specs.Sane.{KeepsShape}
use Rattle.zone_choice.specs.Tables.{TablesView, size_of}
use Rattle.logical_map.specs.Live.{lies_in}
use Rattle.logical_map.specs.declared.place.Place.{Place}
use Rattle.zone_choice.specs.Agreement.{MountedView, mounted}
use Rattle.drive_array.specs.ZoneLogs.{drive_logs, sequences, encoded}
use Rattle.drive_array.specs.Sizes.{greatest, map_of}
use Rattle.drive_array.specs.Mountable.{IsMountable}
use Rattle.drive_array.specs.Reserve.{batch_most, most_size}
use Rattle.zone_cleaner.specs.Clean.{CleanView, turns_left}
use Rattle.zone_translator.specs.declared.fault.DiskFault.{DiskFault}
use Rattle.zone_translator.specs.declared.fault.DiskFault.TheVariants.{OutOfRange, Unmounted, Smaller, Reserve}
use Rattle.zone_translator.specs.declared.status.DiskStatus.{DiskStatus}
use Rattle.zone_translator.specs.declared.status.DiskStatus.TheVariants as statuses
use Rattle.zone_translator.specs.Changes.{IsCause, batch_commands, failing_commands}
use Rattle.zone_translator.specs.Flat.{FlatDisk}

-- the drive below, what is known of it in memory, the clean that runs, and whether the disk serves
pub record DiskView : Type 0 where
  pub drive : DriveState
  pub tables : TablesView
  pub clean : Option CleanView
  pub status : DiskStatus

-- the drive with its tables
abbrev pub mounted_of : DiskView → MountedView
mounted_of disk = mounted disk.drive disk.tables

-- how many logical blocks there are
abbrev pub disk_size : DiskView → ℕ
disk_size disk = size_of disk.tables

-- the sequence of the next batch
abbrev pub next_sequence : DiskView → ℕ
next_sequence disk = disk.tables.next

-- the number of logical blocks that the mount was given: there are as many if no header has a size
abbrev pub given_size : DiskView → ℕ
given_size disk = disk.tables.given

-- the flat array that the disk keeps: the one that its drive encodes
abbrev pub disk_array : DiskView → List (List ℕ)
disk_array disk = encoded disk.drive (given_size disk)

-- where the newest record of each block is on the drive, by its logs
abbrev pub disk_places : DiskView → List Place
disk_places disk = map_of disk.drive.geometry.size (given_size disk) (drive_logs disk.drive)

-- as many blocks have their newest record in a zone that the drive has
abbrev pub HasLive : DiskView → ℕ → ℕ → Type 0
HasLive disk zone count = zone < disk.drive.geometry.zones → count ≡ count_by (lies_in disk.drive.geometry.size zone) (disk_places disk)

-- the logs of all zones of the drive
abbrev pub logs_of : DiskView → List (List Batch)
logs_of disk = drive_logs disk.drive

-- the size that the headers on the drive say, if any does
abbrev pub size_on : DiskView → Option ℕ
size_on disk = greatest (drive_logs disk.drive)

abbrev pub flat_of : DiskView → FlatDisk
flat_of disk = record {
  array = disk_array disk;
  size = disk_size disk;
  status = disk.status;
  block = disk.drive.geometry.block;
  most = most_size disk.drive.geometry;
}

-- while the disk serves, each batch on its drive has a sequence below the next one
abbrev pub AreBelowNext : DiskView → Type 0
AreBelowNext disk = disk.status ≡ statuses.Serving → AllByRecursion (λ sequence. sequence < next_sequence disk) (sequences (logs_of disk))

-- What every call of a disk but a remount keeps, whatever it answers: a drive that can be mounted again. No command is
-- refused, the next sequence rises by one with each batch that is appended and stays above all sequences on the drive,
-- and the disk is not unmounted. A drive that failed has failed from then on.
pub record KeepsDisk (old new : DiskView) : Type 0 where
  pub given : given_size new ≡ given_size old
  pub geometry : new.drive.geometry ≡ old.drive.geometry
  pub mountable : IsMountable new.drive (given_size new)
  pub refused : new.drive.refused ≡ old.drive.refused
  pub next : next_sequence new + old.drive.appended ≡ next_sequence old + new.drive.appended
  pub appended : old.drive.appended ≤ new.drive.appended
  pub below : AreBelowNext old → AreBelowNext new
  pub unmounted : new.status ≡ statuses.Unmounted → old.status ≡ statuses.Unmounted
  pub unfailing : IsTrue new.drive.unfailing → IsTrue old.drive.unfailing

-- Whatever the Reads of the drive returned, its shape and the number of blocks stay.
pub record StaysAlike (old new : DiskView) : Type 0 where
  pub shape : KeepsShape old.drive new.drive
  pub size : disk_size new ≡ disk_size old

-- a call that is no flush also keeps what is durable of the drive
pub record KeepsDurable (old new : DiskView) : Type 0 where
  pub kept : KeepsDisk old new
  pub durable : new.drive.durable ≡ old.drive.durable

-- why a call was refused; of a range and of a size the call itself tells
abbrev pub DiskCause : DiskView → DiskFault → Type 0
DiskCause disk OutOfRange = Unit {0}
DiskCause disk Smaller = Unit {0}
DiskCause disk Reserve = Unit {0}
DiskCause disk Unmounted = disk.status ≡ statuses.Unmounted
DiskCause disk fault = IsCause disk.drive (next_sequence disk) fault

-- how many turns are left of the clean that runs: one at least, if one runs
abbrev pub disk_turns : DiskView → ℕ
disk_turns disk = turns_left (batch_most disk.drive.geometry) disk.tables disk.clean

-- ---- how many commands a call completes

-- at most how many batches a write of n blocks has: one for each block; a write of trims has as few as its entries allow
abbrev pub most_batches : Bool → DiskView → ℕ → ℕ
most_batches true disk n = div_ceil n (batch_most disk.drive.geometry)
most_batches false disk n = n

-- the drive completes no more than that many commands
abbrev pub CompletesAtMost : DiskView → ℕ → DiskView → Type 0
CompletesAtMost old count new = new.drive.completed ≤ old.drive.completed + count

-- The same by how many commands a batch takes: more, once a command failed, since each may clean zone after zone then.
pub record CostsMost (old : DiskView) (most : ℕ → ℕ) (new : DiskView) : Type 0 where
  pub unfailing : IsTrue new.drive.unfailing → CompletesAtMost old (most (batch_commands old.drive.geometry)) new
  pub failing : CompletesAtMost old (most (failing_commands old.drive.geometry)) new

-- it completes no more than those of so many batches
abbrev pub CostsBatches : DiskView → ℕ → DiskView → Type 0
CostsBatches old batches new = CostsMost old (λ each. batches * each) new
