-- A drive on which all is found again that a disk above it held.
use Rattle.std.specs.Prelude.{◌≡◌}
use Rattle.drive_port.specs.Drive.{DriveState}
use Rattle.zone_translator.specs.Laws.{FindsAgain}
use Rattle.zone_translator.specs.View.{DiskView}

-- a disk left this drive; restarted, it can be mounted, and each disk that is mounted on it has the array that was left
pub record IsFoundAgain (drive : DriveState) : Type 0 where
  pub left : DiskView
  pub drive_is : left.drive ≡ drive
  pub found : FindsAgain left
