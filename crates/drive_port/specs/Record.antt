-- A device that keeps the entries of its completed commands.
use Rattle.std.specs.Prelude.{ℕ, List}
use Rattle.drive_port.specs.Drive.{DriveState}

-- the drive within, and the entries of the commands that were completed since it was put there, in order
pub record Recording : Type 0 where
  pub inner : DriveState
  pub entries : List (List ℕ)
