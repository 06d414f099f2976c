use Rattle.drive_port.specs.Drive.{DriveState}
use Rattle.job_drives.proofs.KeptLaws.{left-file}
use Rattle.zone_drive.specs.declared.habit.Habit.TheVariants.{Lazy}
use Rattle.repair_jobs.specs.Jobs.{MendsClean}
use Rattle.repair_jobs.proofs.FileLaws.{keeps-file}
use Rattle.repair_jobs.proofs.file.mend_file.Goals as goal

pub returns-clause-left : goal.returns-clause-left
returns-clause-left g c =
    left-file (λ (old new : DriveState). MendsClean old c.mend-mended.result new)
    (g.I.Read.remaining c.args.file.bytes) Lazy _ _ _ _ _ _ c.in-Ok.ensures.ok (record { mends = c.mend-mended.ensures.mends; clean = c.vouch.ensures }) c.leave-left.ensures.was_image c.leave-left.ensures.left

pub returns-clause-kept : goal.returns-clause-kept
returns-clause-kept g c =
    keeps-file (g.I.Read.remaining c.args.file.bytes) Lazy _ _ _ _ _ _ c.in-Ok.ensures.ok (c.mend-mended.ensures.batches c.vouch.ensures) c.leave-left.ensures.left
