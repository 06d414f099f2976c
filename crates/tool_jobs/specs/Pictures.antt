-- The zones of the drive in a file, drawn with their live blocks.
use Rattle.std.specs.Prelude.{◌≡◌, ◌⊎◌, ℕ, List, [], length, map, slice_get, Some, Result, Ok, Err, ⊤}
use Rattle.zone_states.specs.Geometry.{IsInRange}
use Rattle.drive_array.specs.Repair.{live_data}
use Rattle.drive_array.specs.Reserve.{most_size}
use Rattle.drive_array.specs.ZoneLogs.{drive_logs}
use Rattle.drive_port.specs.Drive.{DriveState}
use Rattle.drive_survey.specs.Reported.{KeepsZones}
use Rattle.drive_survey.specs.Survey.{drive_size}
use Rattle.drive_survey.specs.declared.fault.MountFault.{MountFault}
use Rattle.drive_inspection.specs.Findings.{Refuses}
use Rattle.drive_inspection.specs.declared.info.Info.{Info}
use Rattle.drive_inspection.specs.declared.info.ZoneInfo.{ZoneInfo}
use Rattle.job_drives.specs.Kept.{IsReadIn}
use Rattle.tool_jobs.specs.Checks.{HasFailed, HasStopped}
use Rattle.tool_jobs.specs.Telling.{Bytes, HoldsNone}
use Rattle.tool_jobs.specs.declared.fault.ToolFault.{ToolFault}
use Rattle.tool_jobs.specs.declared.fault.ToolFault.TheVariants.{Stopped, Failed, Memory}
use Rattle.tool_jobs.specs.declared.picturing.PicturedDrive.{PicturedDrive}

-- how many live blocks with data each zone has
abbrev pub written_counts : List ZoneInfo → List ℕ
written_counts zones = map (λ (zone : ZoneInfo). zone.live.written) zones

-- the same of what was found of a drive: none if a mount is refused
abbrev pub live_counts : Result Info MountFault → List ℕ
live_counts (Ok info) = written_counts info.holdings.zones.items
live_counts (Err fault) = []

-- these are the live blocks of each zone, with n logical blocks if no header says how many
pub record CountsLive (drive : DriveState) (n : ℕ) (live : List ℕ) : Type 0 where
  pub count : length live ≡ length drive.zones
  pub zones : (zone blocks : ℕ) → slice_get live zone ≡ Some blocks → blocks ≡ live_data (drive_size drive n) (drive_logs drive) zone

-- of a drive that cannot be mounted none are counted
abbrev pub CountsNone : DriveState → DriveState → ℕ → List ℕ → Type 0
CountsNone drive last n live = (live ≡ []) × ((fault : MountFault) × Refuses drive last n (Some fault))

-- These are the live blocks of a drive that can be mounted; of another there are none. If no header says how many
-- logical blocks it has, it is taken to have as many as it can serve. The drive is `last` then.
pub record FindsLive (drive last : DriveState) (live : List ℕ) : Type 0 where
  pub blocks : ℕ
  pub most : IsInRange drive.geometry → blocks ≡ most_size drive.geometry
  pub counts : CountsLive drive blocks live ⊎ CountsNone drive last blocks live

-- This is the drive in the file, with its live blocks. It is as it was saved, but the controller may have closed zones.
pub record FindsPicture (file : Bytes) (pictured : PicturedDrive) : Type 0 where
  pub saved : DriveState
  pub is_read : IsReadIn file saved
  pub keeps : KeepsZones saved pictured.drive.state
  pub live : FindsLive saved pictured.drive.state pictured.live.items

-- why a drive is not looked at to its end: it has stopped, or failed at a command, or memory ran out
abbrev pub LooksNone : DriveState → ToolFault → Type 0
LooksNone last Stopped = HasStopped last
LooksNone last Failed = HasFailed last
LooksNone last Memory = ⊤
LooksNone last fault = ⊥

-- the drive in the file came to this once it was asked
pub record HaltsAsSaved (Halts : DriveState → Type 0) (file : Bytes) : Type 0 where
  pub saved : DriveState
  pub is_read : IsReadIn file saved
  pub last : DriveState
  pub keeps : KeepsZones saved last
  pub halts : Halts last

-- Why nothing is drawn: the bytes hold no drive, by their first fault; or it has stopped, or failed at a command, or
-- memory ran out.
abbrev pub DrawsNone : Bytes → ToolFault → Type 0
DrawsNone file Stopped = HaltsAsSaved HasStopped file
DrawsNone file Failed = HaltsAsSaved HasFailed file
DrawsNone file Memory = ⊤
DrawsNone file fault = HoldsNone file fault
