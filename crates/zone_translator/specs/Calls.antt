-- What holds of the parts of a disk, and what a read gives.
use Rattle.std.specs.Prelude.{◌≡◌, ℕ, ◌≤◌, ◌^◌, ◌++◌, Bool, true, false, List, length, Option, Some, None, Result, Ok, Err, IsTrue, is_some}
use Rattle.std.specs.List.{concat, flat_map}
use Rattle.nvme_wire.specs.Descriptor.{descriptor_bytes, report_head_bytes}
use Rattle.nvme_wire.specs.declared.command.ReportingOptions.TheVariants.{AnyState}
use Rattle.zone_states.specs.declared.geometry.Geometry.{Geometry}
use Rattle.zone_states.specs.Zone.{Zone}
use Rattle.zone_report.specs.Report.{matching}
use Rattle.zone_states.specs.Geometry.{IsInRange}
use Rattle.drive_port.specs.Drive.{DriveState, IsClosing}
use Rattle.zone_choice.specs.Agreement.{MountedView}
use Rattle.zone_choice.specs.Sane.{IsSane}
use Rattle.drive_array.specs.Mountable.{IsMountable}
use Rattle.drive_array.specs.Reserve.{FitsReserve}
use Rattle.zone_translator.specs.declared.fault.DiskFault.{DiskFault}
use Rattle.zone_translator.specs.declared.fault.DiskFault.TheVariants as faults
use Rattle.zone_translator.specs.declared.status.DiskStatus.{DiskStatus}
use Rattle.zone_translator.specs.declared.status.DiskStatus.TheVariants.{Serving, Stopped, Unmounted}
use Rattle.zone_cleaner.specs.declared.fault.CleanFault.{CleanFault}
use Rattle.zone_cleaner.specs.Clean.{CleanView}
use Rattle.zone_cleaner.specs.Start.{AgreesWithClean, TurnLeaves}
use Rattle.zone_translator.specs.Changes.{cleaning_fault}
use Rattle.zone_translator.specs.Flat.{Call, FlatCall, FlatDisk, known_answer, read}
use Rattle.zone_translator.specs.View.{DiskView, disk_size, given_size, mounted_of}

-- a fact that is kept while a disk serves
abbrev pub WhileServing : DiskStatus → Type 0 → Type 0
WhileServing Serving Fact = Fact
WhileServing Stopped Fact = Unit {0}
WhileServing Unmounted Fact = Unit {0}

-- The drive of a disk can be mounted, and its reserve allows the number that the mount was given. While the disk
-- serves, the tables agree with the drive, and a clean runs, or none does and a zone is kept empty. It has answered
-- `Stopped` only after the drive has stopped.
pub record HoldsClean (disk : MountedView) (clean : Option CleanView) (status : DiskStatus) : Type 0 where
  pub mountable : IsMountable disk.drive disk.tables.given
  pub reserve : FitsReserve disk.drive.geometry disk.tables.given
  pub agrees : WhileServing status (AgreesWithClean disk clean)
  pub stopped : status ≡ Stopped → disk.drive.stopped ≡ true

-- So it is while the drive is clean. Whatever its Reads returned, the numbers of the disk are in range.
pub record Holds (disk : MountedView) (clean : Option CleanView) (status : DiskStatus) : Type 0 where
  pub sane : IsSane disk
  pub when : IsTrue disk.drive.clean → HoldsClean disk clean status

-- what of it a test of a call beforehand tells
pub record IsSound (disk : DiskView) : Type 0 where
  pub mountable : IsTrue disk.drive.clean → IsMountable disk.drive (given_size disk)
  pub range : IsInRange disk.drive.geometry
  pub short : disk_size disk ≤ 2 ^ 31

-- what a refusal on its way leaves a disk in
abbrev pub status_left : DiskFault → DiskStatus
status_left faults.Stopped = Stopped
status_left faults.Damaged = Stopped
status_left fault = Serving

-- the answer that a test made beforehand stands for: that the call is done, that it continues, or a refusal
abbrev pub answer_before : Result Bool DiskFault → Option (Result (Unit {0}) DiskFault)
answer_before (Ok true) = Some (Ok tt)
answer_before (Ok false) = None
answer_before (Err fault) = Some (Err fault)

-- the answer that a test stands for whether a call continues: none, or a refusal
abbrev pub refusal_before : Result (Unit {0}) DiskFault → Option (Result (Unit {0}) DiskFault)
refusal_before (Ok done) = None
refusal_before (Err fault) = Some (Err fault)

-- a read of n blocks: what is in the buffer are the bytes of the blocks that it shows
pub record Reads (old : FlatDisk) (first n : ℕ) (result : Result (Unit {0}) DiskFault) (bytes : List ℕ) (new : FlatDisk) : Type 0 where
  pub shown : List (List ℕ)
  pub flat : FlatCall old (read first n) (record { result = result; shown = shown }) new
  pub bytes_are : bytes ≡ concat shown

-- whether the answer to a call is known before anything is done
abbrev pub is_known : FlatDisk → Call → Bool
is_known disk call = is_some (known_answer disk call)

-- whether a call with a result of its own was done, or why not
abbrev pub done_of : {V : Type 0} → Result V DiskFault → Result (Unit {0}) DiskFault
done_of (Ok value) = Ok tt
done_of (Err fault) = Err fault

-- a report of all zones: their number, and a descriptor of each
abbrev pub whole_report : Geometry → List Zone → List ℕ
whole_report geometry zones = report_head_bytes (record { zones = length zones }) ++ flat_map descriptor_bytes (matching geometry AnyState 0 zones)

-- These bytes are a report of all zones, whole, as they were at a moment of the call: a closing of those before it, which those after it are a closing of.
pub record ReportsAll (old : DriveState) (bytes : List ℕ) (new : DriveState) : Type 0 where
  pub zones : List Zone
  pub before : IsClosing old.zones zones
  pub bytes_are : bytes ≡ whole_report old.geometry zones
  pub after : IsClosing zones new.zones

-- A turn of a disk that serves, by its answer: the next step of the clean that runs or, if none runs, the start of one that is due.
abbrev pub IsTurn : DiskView → Result (Unit {0}) DiskFault → DiskView → Type 0
IsTurn old (Ok done) new = TurnLeaves (mounted_of old) old.clean (Ok tt) (mounted_of new) new.clean
IsTurn old (Err fault) new =
    (cause : CleanFault) × (fault ≡ cleaning_fault cause) × TurnLeaves (mounted_of old) old.clean (Err cause) (mounted_of new) new.clean
