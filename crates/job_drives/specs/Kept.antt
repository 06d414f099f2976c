-- The drive in a file.
use Rattle.std.specs.Prelude.{◌≡◌, ◌↔◌, IsTrue, ℕ, List, Option, Some, None, IfSome, ⊤}
use Rattle.drive_port.specs.Drive.{DriveState}
use Rattle.drive_port.specs.Run.{restarted}
use Rattle.drive_images.specs.Image.{IsImage}
use Rattle.drive_journal.specs.Change.{Sum}
use Rattle.drive_journal.specs.File.{IsDriveFile}
use Rattle.zone_drive.specs.declared.habit.Habit.{Habit}
use Rattle.job_drives.specs.declared.kept_drive.Begun.{Begun}

-- The drive that the bytes of a file hold, where they are known, restarted, with this habit. It is told whether they are the image of just this drive.
pub record IsRestarted (file : Option (List ℕ)) (habit : Habit) (begun : Begun) : Type 0 where
  pub opened : DriveState
  pub is_file : IfSome file (λ bytes. IsDriveFile bytes opened begun.whole begun.sum)
  pub drive_is : begun.drive ≡ record { state = restarted opened; habit = habit }
  pub image : IfSome file (λ bytes. IsTrue begun.is_image ↔ IsImage bytes begun.drive.state)

-- this drive is read in the file
pub record IsReadIn (file : Option (List ℕ)) (drive : DriveState) : Type 0 where
  pub whole : ℕ
  pub sum : Sum
  pub is_file : IfSome file (λ bytes. IsDriveFile bytes drive whole sum)

-- a store holds the bytes of a file, where its bytes are known
abbrev pub HoldsFile : Option (List ℕ) → Option (List ℕ) → Type 0
HoldsFile None file = ⊤
HoldsFile (Some held) file = file ≡ Some held
