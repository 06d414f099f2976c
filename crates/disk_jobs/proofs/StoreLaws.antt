-- What the store of a job holds once its lines were answered.
use Rattle.std.proofs.Common.{◌≡◌, true, false, refl}
use Rattle.std.specs.Prelude.{IfSome}
use Rattle.drive_port.specs.Drive.{DriveState}
use Rattle.disk_runs.specs.Run.{Known}
use Rattle.drive_journal.specs.Cut.{front_of}
use Rattle.drive_journal.specs.File.{IsStored, IsStoredWhole}
use Rattle.job_drives.specs.Kept.{HoldsFile}
use Rattle.job_drives.specs.declared.kept_drive.Begun.{Begun}
use Rattle.job_drives.proofs.KeptLaws.{restarted-stored}
use Rattle.disk_jobs.specs.Saved.{BeginsOn, StoresDrive, has_changes}
use Rattle.disk_jobs.specs.declared.job.Job.{Job}
use Rattle.disk_jobs.specs.declared.job.Job.TheVariants as jobs

-- the store of a job whose changes go to a file holds the drive
pub stores-drive : (job : Job) (old held : Known) (drive : DriveState) → has_changes job ≡ true → IfSome held (λ bytes. IsStored bytes drive) → StoresDrive job old held drive
stores-drive (jobs.Format path geometry force) old held drive e stored = absurd (cc e)
stores-drive (jobs.Run path blocks zones statistics stop habit sync false progress) old held drive e stored = stored
stores-drive (jobs.Run path blocks zones statistics stop habit sync true progress) old held drive e stored = absurd (cc e)
stores-drive (jobs.Report path) old held drive e stored = absurd (cc e)
stores-drive (jobs.Nvme path explain habit sync) old held drive e stored = stored
stores-drive (jobs.Fresh geometry blocks shown statistics stop habit) old held drive e stored = absurd (cc e)
stores-drive (jobs.FreshRaw geometry habit) old held drive e stored = absurd (cc e)

-- the store of any other job is not used
pub stores-nothing : (job : Job) (old : Known) (drive : DriveState) → has_changes job ≡ false → StoresDrive job old old drive
stores-nothing (jobs.Format path geometry force) old drive e = refl
stores-nothing (jobs.Run path blocks zones statistics stop habit sync false progress) old drive e = absurd (cc e)
stores-nothing (jobs.Run path blocks zones statistics stop habit sync true progress) old drive e = refl
stores-nothing (jobs.Report path) old drive e = refl
stores-nothing (jobs.Nvme path explain habit sync) old drive e = absurd (cc e)
stores-nothing (jobs.Fresh geometry blocks shown statistics stop habit) old drive e = refl
stores-nothing (jobs.FreshRaw geometry habit) old drive e = refl

-- a job with a file begins with the drive that its store has once it was cut
pub begins-stored : (job : Job) (held file : Known) (begun : Begun) → HoldsFile held file → BeginsOn job file begun → has_changes job ≡ true
    → IfSome (front_of begun.whole held) (λ bytes. IsStoredWhole bytes begun.drive.state begun.sum)
begins-stored (jobs.Format path geometry force) held file begun same begins e = absurd (cc e)
begins-stored (jobs.Run path blocks zones statistics stop habit sync read_only progress) held file begun same begins e = restarted-stored held file habit begun same begins
begins-stored (jobs.Report path) held file begun same begins e = absurd (cc e)
begins-stored (jobs.Nvme path explain habit sync) held file begun same begins e = restarted-stored held file habit begun same begins
begins-stored (jobs.Fresh geometry blocks shown statistics stop habit) held file begun same begins e = absurd (cc e)
begins-stored (jobs.FreshRaw geometry habit) held file begun same begins e = absurd (cc e)
