-- What the drive in a file holds.
use Rattle.std.specs.Prelude.{◌≡◌, ℕ}
use Rattle.zone_states.specs.Geometry.{IsInRange}
use Rattle.drive_array.specs.Reserve.{most_size}
use Rattle.drive_port.specs.Drive.{DriveState}
use Rattle.drive_port.specs.Run.{restarted}
use Rattle.drive_inspection.specs.Info.{IsInspected}
use Rattle.drive_inspection.specs.declared.info.InspectedDrive.{InspectedDrive}
use Rattle.job_drives.specs.Kept.{IsReadIn}
use Rattle.tool_jobs.specs.Telling.{Bytes}

-- This is what the drive in the file holds once it is restarted, and what a mount of it takes. If it does not say how
-- many logical blocks it has, it is taken to have as many as it can serve.
pub record FindsInfo (file : Bytes) (found : InspectedDrive) : Type 0 where
  pub saved : DriveState
  pub is_read : IsReadIn file saved
  pub blocks : ℕ
  pub most : IsInRange (restarted saved).geometry → blocks ≡ most_size (restarted saved).geometry
  pub inspected : IsInspected (restarted saved) blocks found
