use Rattle.drive_port.specs.Drive.{DriveState}
use Rattle.job_drives.proofs.KeptLaws.{left-file}
use Rattle.zone_drive.specs.declared.habit.Habit.TheVariants.{Lazy}
use Rattle.disk_copies.specs.DriveCopies.{ImportsDrive}
use Rattle.disk_copies.proofs.drive_import.import_drive.Goals as goal

pub returns-clause-left : goal.returns-clause-left
returns-clause-left g c =
    left-file (λ (old new : DriveState). ImportsDrive c.args.job.now (g.R.Read.remaining c.args.reader.now) (g.R.Read.remaining c.import_mounted-device.new.reader) old c.import_mounted-device.result.1 c.import_mounted-device.new.written new)
    (g.I.Read.remaining c.args.file.bytes) Lazy _ _ _ _ _ _ c.in-Ok.ensures.ok (c.import_mounted-device.ensures.imports c.vouch.ensures) c.leave-left.ensures.was_image c.leave-left.ensures.left
