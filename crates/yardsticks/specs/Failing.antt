-- A device that may have failed at a command, by the device within.
use Rattle.std.specs.Prelude.{Bool, not, ◌&&◌}
use Rattle.drive_port.specs.Drive.{DriveState}

-- what the device within holds; it is unfailing if no command failed
abbrev pub failed_by : DriveState → Bool → DriveState
failed_by inner failed = record inner { unfailing = not failed && inner.unfailing }
