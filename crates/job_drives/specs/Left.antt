-- What a job begins with on the drive in a file, and what it leaves of that drive.
use Rattle.std.specs.Prelude.{◌≡◌, ◌||◌, ◌&&◌, not, if◌then◌else◌, Bool, false, Option, Some, None, Result, Err, IfSome}
use Rattle.disk_files.specs.Input.{Known}
use Rattle.drive_port.specs.Drive.{DriveState}
use Rattle.drive_journal.specs.File.{IsStored}
use Rattle.drive_journal.specs.FileFaults.{IsFileFault}
use Rattle.zone_drive.specs.Habits.{MemoryDrive}
use Rattle.zone_drive.specs.declared.habit.Habit.{Habit}
use Rattle.job_drives.specs.Kept.{IsRestarted}
use Rattle.job_drives.specs.declared.file_end.FileEnd.{FileEnd}
use Rattle.job_drives.specs.declared.keep_fault.KeepFault.{KeepFault}
use Rattle.job_drives.specs.declared.keep_fault.KeepFault.TheVariants.{Image}
use Rattle.job_drives.specs.declared.kept_drive.Begun.{Begun}
use Rattle.job_drives.specs.declared.left.Left.{Left}

-- the bytes of a file hold no drive, by their first fault
abbrev pub IsUnread : Known → KeepFault → Type 0
IsUnread file (Image fault) = IfSome file (λ bytes. IsFileFault bytes fault)
IsUnread file fault = ⊥

-- A job begins with the drive that the bytes of a file hold, restarted, with this habit. It is told whether the file is the image of that drive.
pub record StartsStored (file : Known) (habit : Habit) (drive : DriveState) (was_image : Bool) : Type 0 where
  pub first : Begun
  pub begins : IsRestarted file habit first
  pub drive_is : drive ≡ first.drive.state
  pub image_is : was_image ≡ first.is_image

-- the drive that is handed back is this one; where the store failed, only the store has it
abbrev pub IsHandedBack : Bool → DriveState → DriveState → Type 0
IsHandedBack failed drive back = failed ≡ false → (back.geometry ≡ drive.geometry) × (back.zones ≡ drive.zones)

-- This drive is left: the store of its changes holds it, and it is handed back. Whether the store failed is told.
pub record IsLeft (drive : DriveState) (left : Left) (held : Known) (failed : Bool) : Type 0 where
  pub failed_is : left.failed ≡ failed
  pub back : IsHandedBack failed drive left.drive.state
  pub stored : IfSome held (λ bytes. IsStored bytes drive)

-- What a job leaves of the drive that the bytes of a file hold, restarted, whatever ended it. `Does` says what it does to a drive. It is told whether
-- the file was the image of that drive at rest.
pub record LeavesFile (Does : DriveState → DriveState → Type 0) (file : Known) (habit : Habit) (left : Left) (held : Known)
    (failed : Bool) : Type 0 where
  pub first : Begun
  pub begins : IsRestarted file habit first
  pub was_image : left.was_image ≡ first.is_image
  pub drive : DriveState
  pub does : Does first.drive.state drive
  pub leaves : IsLeft drive left held failed

-- ---- the file

-- Whether a file stays as it is when its job has ended: no change was appended to it, and it was the image of the drive at rest; or it takes no more changes.
abbrev pub stays : FileEnd → Bool → Bool
stays end was_image = end.takes_none || (not end.is_changed && was_image)

-- What is saved of a job: the drive that it left, also after a fault. Nothing is saved where the file stays as it is, nor where the store failed: then
-- the file has all changes before.
abbrev pub drive_to_save : FileEnd → Option Left → Option MemoryDrive
drive_to_save end None = None
drive_to_save end (Some left) = if (left.failed || stays end left.was_image) then None else Some left.drive

-- a job whose file failed is told by that fault
abbrev pub first_told : {T F : Type 0} → Result T F → Option F → Result T F
first_told ended (Some failed) = Err failed
first_told ended None = ended
