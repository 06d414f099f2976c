-- What is read of a drive, each zone by itself.
use Rattle.std.specs.Prelude.{◌≡◌, ℕ, true, false, List, [], length, slice_get, Some, IsFalse, ⊤}
use Rattle.std.specs.List.{AllByRecursion}
use Rattle.drive_port.specs.Contents.{Content, content_at, contents, is_usable, usage_of}
use Rattle.drive_port.specs.Drive.{DriveState, IsLawful}
use Rattle.drive_survey.specs.declared.reported.ReportedZone.{ReportedZone}
use Rattle.drive_survey.specs.Reported.{IsKnown}
use Rattle.drive_survey.specs.Scan.{FailsIn, Scans}
use Rattle.drive_inspection.specs.Found.{IsRefusal}
use Rattle.drive_inspection.specs.declared.reading.ZoneReading.{ZoneReading}
use Rattle.drive_inspection.specs.declared.reading.ZoneReading.TheVariants.{Log, Fault, Unusable, Unread}

-- A zone is used as it was reported, and one that can be used is known.
pub record IsTold (drive : DriveState) (zone : ℕ) (reported : ReportedZone) : Type 0 where
  pub lawful : IsLawful drive
  pub usage : (content_at (contents drive.zones) zone).usage ≡ usage_of reported.state
  pub known : is_usable (usage_of reported.state) ≡ true → IsKnown drive zone reported

-- so it is with all zones
pub record AreTold (drive : DriveState) (reported : List ReportedZone) : Type 0 where
  pub lawful : IsLawful drive
  pub count : length reported ≡ length drive.zones
  pub each : (zone : ℕ) (r : ReportedZone) → slice_get reported zone ≡ Some r → IsTold drive zone r

-- The headers of a zone that can be used, if its batches have no fault by themselves; or else the first fault. Or the
-- drive failed at a command, and then it has failed to the end of the look.
abbrev pub ReadsContent : DriveState → DriveState → ℕ → Content → ZoneReading → Type 0
ReadsContent drive last zone content (Log scanned) = (seen : List ℕ) × Scans drive.geometry content [] scanned.heads scanned.is_torn seen
ReadsContent drive last zone content (Fault fault) = FailsIn drive.geometry content zone [] fault
ReadsContent drive last zone content Unread = IsFalse last.unfailing
ReadsContent drive last zone content Unusable = ⊥

-- a zone that is Read Only or Offline is not read
abbrev pub ReadsUsage : DriveState → DriveState → ℕ → Content → ZoneReading → Type 0
ReadsUsage drive last zone content Unusable = is_usable content.usage ≡ false
ReadsUsage drive last zone content read = (is_usable content.usage ≡ true) × ReadsContent drive last zone content read

abbrev pub ReadsAlone : DriveState → DriveState → ℕ → ZoneReading → Type 0
ReadsAlone drive last zone read = ReadsUsage drive last zone (content_at (contents drive.zones) zone) read

-- so each zone was read
pub record AreReads (drive last : DriveState) (reads : List ZoneReading) : Type 0 where
  pub count : length reads ≡ length drive.zones
  pub each : (zone : ℕ) (read : ZoneReading) → slice_get reads zone ≡ Some read → ReadsAlone drive last zone read

-- a fault that is read tells something of what the drive holds
abbrev pub IsTelling : ZoneReading → Type 0
IsTelling (Fault fault) = IsRefusal fault
IsTelling read = ⊤

abbrev pub AreTelling : List ZoneReading → Type 0
AreTelling reads = AllByRecursion IsTelling reads
