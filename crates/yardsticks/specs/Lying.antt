-- A device that may have lied at a Read, by the device within.
use Rattle.std.specs.Prelude.{Bool, not}
use Rattle.drive_port.specs.Drive.{DriveState}

-- what the device within holds, which is clean if no other bytes were returned
abbrev pub told_by : DriveState → Bool → DriveState
told_by inner lied = record inner { clean = not lied }
