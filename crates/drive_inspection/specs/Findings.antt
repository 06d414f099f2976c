-- All faults of a drive, taken as n logical blocks if no header says how many.
use Rattle.std.specs.Prelude.{◌≡◌, ℕ, List, [], Option, Some, None, IfSome, IsFalse, IsNone, IsSome, count_by}
use Rattle.std.specs.List.{AllByRecursion}
use Rattle.zone_states.specs.Geometry.{IsInRange}
use Rattle.drive_port.specs.Contents.{contents}
use Rattle.drive_port.specs.Drive.{DriveState}
use Rattle.drive_array.specs.Mountable.{is_partly_written}
use Rattle.drive_survey.specs.declared.fault.MountFault.{MountFault}
use Rattle.drive_survey.specs.declared.fault.MountFault.TheVariants.{Failed}
use Rattle.remount.specs.Mount.{IsPlanned, IsToMount, MountFails}
use Rattle.drive_inspection.specs.declared.finding.Findings.{Findings}
use Rattle.drive_inspection.specs.declared.finding.ZoneFault.{ZoneFault}
use Rattle.drive_inspection.specs.declared.foreseen.Foreseen.{Foreseen}
use Rattle.drive_inspection.specs.declared.reading.ZoneReading.{ZoneReading}
use Rattle.drive_inspection.specs.Lists.{fault_at, found_in, is_log, past_end_at, repeats_from, size_read, torn_read_at, unread_at, unusable_at}
use Rattle.drive_inspection.specs.Found.{IsRefusal, IsTellable}
use Rattle.drive_inspection.specs.Reads.{AreReads}

-- The drive can be mounted, and this is what a mount would do. The zones of the drive that is left may have been closed.
pub record ForeseesMount (old new : DriveState) (n : ℕ) (foreseen : Foreseen) : Type 0 where
  pub geometry_is : foreseen.geometry ≡ old.geometry
  pub can : IsToMount old n
  pub planned : IsPlanned new n foreseen.survey foreseen.plan

-- By what a mount is refused: nothing, where the drive can be mounted. Or the drive failed at a command before that was
-- known, and then it has failed to the end of the look. The drive is `last` then.
abbrev pub Refuses : DriveState → DriveState → ℕ → Option MountFault → Type 0
Refuses drive last n None = IsToMount drive n
Refuses drive last n (Some Failed) = IsFalse last.unfailing
Refuses drive last n (Some fault) = MountFails drive n fault

abbrev pub unusable_zones : DriveState → List ℕ
unusable_zones drive = found_in unusable_at (contents drive.zones)

-- nothing is listed
pub record ListsNothing (findings : Findings) : Type 0 where
  pub unusable : findings.unusable.items ≡ []
  pub partly_written : findings.partly_written ≡ 0
  pub batches : findings.batches.items ≡ []
  pub repeated : findings.repeated.items ≡ []
  pub past_end : findings.past_end.items ≡ []
  pub torn : findings.torn.items ≡ []
  pub unread : findings.unread.items ≡ []
  pub readable : findings.readable ≡ 0

-- the lists have exactly what these reads of the zones show
pub record ListsReads (n : ℕ) (reads : List ZoneReading) (findings : Findings) : Type 0 where
  pub batches : findings.batches.items ≡ found_in fault_at reads
  pub repeated : findings.repeated.items ≡ repeats_from 0 [] reads
  pub past_end : findings.past_end.items ≡ found_in (past_end_at (size_read n reads)) reads
  pub torn : findings.torn.items ≡ found_in torn_read_at reads
  pub unread : findings.unread.items ≡ found_in unread_at reads
  pub readable : findings.readable ≡ count_by is_log reads

-- Each zone that can be used was read by itself. The drive is `last` then.
pub record ListsZones (drive last : DriveState) (n : ℕ) (findings : Findings) : Type 0 where
  pub partly_written : findings.partly_written ≡ count_by is_partly_written (contents drive.zones)
  pub reads : List ZoneReading
  pub are : AreReads drive last reads
  pub lists : ListsReads n reads findings

pub record ListsFaults (drive last : DriveState) (n : ℕ) (findings : Findings) : Type 0 where
  pub range : IsInRange drive.geometry
  pub unusable : findings.unusable.items ≡ unusable_zones drive
  pub zones : ListsZones drive last n findings

-- what is listed of a drive that is refused: nothing, where its geometry is out of range; else all of its faults
pub record ListsRefused (drive last : DriveState) (n : ℕ) (findings : Findings) : Type 0 where
  pub outside : (IsInRange drive.geometry → ⊥) → ListsNothing findings
  pub listed : IsInRange drive.geometry → ListsFaults drive last n findings

-- and of each drive: nothing, where nothing refuses a mount
pub record ListsAll (drive last : DriveState) (n : ℕ) (findings : Findings) : Type 0 where
  pub clean : IsNone findings.refusal → ListsNothing findings
  pub refused : IsSome findings.refusal → ListsRefused drive last n findings

-- What is found: by what a mount is refused, and all faults then.
pub record AreFindings (drive last : DriveState) (n : ℕ) (findings : Findings) : Type 0 where
  pub refuses : Refuses drive last n findings.refusal
  pub lists : ListsAll drive last n findings

-- ---- what is found whatever the Reads returned

-- The zones that cannot be used are listed, and it is counted how many are partly written. The faults of batches tell
-- something of what the drive holds.
pub record ListsByReport (drive : DriveState) (findings : Findings) : Type 0 where
  pub unusable : findings.unusable.items ≡ unusable_zones drive
  pub partly_written : findings.partly_written ≡ count_by is_partly_written (contents drive.zones)
  pub tells : AllByRecursion (λ (found : ZoneFault). IsRefusal found.fault) findings.batches.items

-- Nothing is found where nothing refuses a mount, or where the geometry is out of range; else what reports tell.
pub record AreByReport (drive : DriveState) (findings : Findings) : Type 0 where
  pub tells : IfSome findings.refusal IsTellable
  pub clean : IsNone findings.refusal → ListsNothing findings
  pub outside : (IsInRange drive.geometry → ⊥) → ListsNothing findings
  pub listed : IsInRange drive.geometry → IsSome findings.refusal → ListsByReport drive findings
