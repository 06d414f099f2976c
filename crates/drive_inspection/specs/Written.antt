-- What a drive holds that a format of it would destroy.
use Rattle.std.specs.Prelude.{◌≡◌, ℕ, ◌<◌, Bool, true, false, length, count_by, Some, None, Result, Ok, Err}
use Rattle.zone_states.specs.Geometry.{IsInRange}
use Rattle.drive_array.specs.Reserve.{most_size}
use Rattle.drive_port.specs.Contents.{Usage, content_at, contents, empty, usage_of}
use Rattle.drive_port.specs.Drive.{DriveState}
use Rattle.drive_survey.specs.Reported.{KeepsZones}
use Rattle.drive_survey.specs.declared.fault.MountFault.{MountFault}
use Rattle.drive_survey.specs.declared.fault.MountFault.TheVariants.{Limits}
use Rattle.drive_survey.specs.declared.reported.ReportedZone.{ReportedZone}
use Rattle.drive_inspection.specs.Info.{IsDriveInfo}
use Rattle.drive_inspection.specs.declared.info.DriveInfo.{DriveInfo}
use Rattle.drive_inspection.specs.declared.info.Info.{Info}
use Rattle.drive_inspection.specs.declared.written.Holding.{Holding}
use Rattle.drive_inspection.specs.declared.written.Holding.TheVariants as holdings
use Rattle.drive_inspection.specs.declared.written.Written.{Written}

-- ---- zones

-- whether a zone that is used so is other than Empty
abbrev pub is_used : Usage → Bool
is_used empty = false
is_used usage = true

abbrev pub is_written : ReportedZone → Bool
is_written one = is_used (usage_of one.state)

-- how many zones are not Empty
abbrev pub written_count : DriveState → ℕ
written_count drive = count_by (λ content. is_used content.usage) (contents drive.zones)

-- each zone below this number is Empty
abbrev pub AreEmptyBelow : ℕ → DriveState → Type 0
AreEmptyBelow end drive = (zone : ℕ) → zone < end → (content_at (contents drive.zones) zone).usage ≡ empty

abbrev pub AreAllEmpty : DriveState → Type 0
AreAllEmpty drive = AreEmptyBelow (length drive.zones) drive

-- ---- what a drive holds

-- This is what the drive holds. If it does not say how many logical blocks it has, it is taken to have as many as it can serve.
-- The drive is `last` then.
pub record HoldsInfo (drive last : DriveState) (info : DriveInfo) : Type 0 where
  pub blocks : ℕ
  pub most : IsInRange drive.geometry → blocks ≡ most_size drive.geometry
  pub is_info : IsDriveInfo drive last blocks info

-- what is told of a drive: the size that its headers say, or that none says one; or why it is not mounted
abbrev pub ShowsHolding : Result Info MountFault → Holding → Type 0
ShowsHolding (Ok info) (holdings.Disk blocks) = info.holdings.said ≡ Some blocks
ShowsHolding (Ok info) holdings.Unsized = info.holdings.said ≡ None
ShowsHolding (Err fault) (holdings.Unmounted cause) = cause ≡ fault
ShowsHolding found holding = ⊥

pub record IsHolding (drive last : DriveState) (holding : Holding) : Type 0 where
  pub info : DriveInfo
  pub holds : HoldsInfo drive last info
  pub shows : ShowsHolding info.found holding

-- this many zones are not Empty, and there is one
pub record CountsWritten (drive : DriveState) (written : Written) : Type 0 where
  pub count : written.zones ≡ written_count drive
  pub some : 0 < written.zones

-- How many zones are not Empty, and what they hold. The drive was looked at before, which keeps its zones.
pub record IsWritten (drive last : DriveState) (written : Written) : Type 0 where
  pub count : written.zones ≡ written_count drive
  pub some : 0 < written.zones
  pub seen : DriveState
  pub keeps : KeepsZones drive seen
  pub holding : IsHolding seen last written.holding

-- What is told of a drive that was looked at: of one whose zones were all reported Empty, nothing.
pub record ShowsWritten (info : DriveInfo) (written : Written) : Type 0 where
  pub count : written.zones ≡ count_by is_written info.zones.items
  pub some : 0 < written.zones
  pub shows : ShowsHolding info.found written.holding

-- It is not looked at: its geometry is out of range.
abbrev pub IsUnlookedAt : DriveState → MountFault → Type 0
IsUnlookedAt drive Limits = IsInRange drive.geometry → ⊥
IsUnlookedAt drive fault = ⊥
