-- When the drive of a job stops.
use Rattle.drive_port.specs.Drive.{DriveState}
use Rattle.drive_port.specs.Stop.{Stopping}
use Rattle.drive_port.specs.declared.progress.Progress.TheVariants.{Going}
use Rattle.job_drives.specs.declared.stop.Stop.{Stop}

-- the device over which a job runs: it stops after that many commands of this drive, and tears an Append after that many blocks
abbrev pub stopping : Stop → DriveState → Stopping
stopping stop drive = record { inner = drive; limit = stop.commands; tear = stop.tear; completed = 0; progress = Going }
