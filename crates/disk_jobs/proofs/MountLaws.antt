-- What is told of a mount.
use Rattle.std.proofs.Common.{◌≡◌, ℕ, true, false, List, length, Some, Ok, Err, refl, ap, ◌∙◌}
use Rattle.std.specs.Prelude.{Bool, Result}
use Rattle.drive_port.specs.Drive.{DriveState}
use Rattle.drive_port.specs.Stop.{drive_of}
use Rattle.drive_array.specs.ZoneLogs.{encoded}
use Rattle.zone_translator.specs.Answers.{IsMounted}
use Rattle.zone_translator.specs.View.{DiskView, disk_size}
use Rattle.disk_runs.specs.Run.{Known}
use Rattle.disk_runs.specs.declared.fault.RunFault.{RunFault}
use Rattle.disk_runs.specs.declared.fault.RunFault.TheVariants as runs
use Rattle.job_drives.specs.DiskSize.{size_of}
use Rattle.job_drives.specs.Stop.{stopping}
use Rattle.job_drives.specs.declared.disk_size.DiskSize.{DiskSize}
use Rattle.job_drives.specs.declared.stop.Stop.{Stop}
use Rattle.disk_jobs.specs.Mounted.{IsMountFault, TellsJob, TellsMount, disk_on}
use Rattle.disk_jobs.specs.Saved.{ThenShows}
use Rattle.disk_jobs.specs.declared.job.Job.{Job}
use Rattle.disk_jobs.specs.declared.job.Job.TheVariants as jobs
use Rattle.disk_jobs.specs.declared.mounting.Mounting.{Mounting}

-- a disk that was mounted is the one that its drive holds
held : (old : DriveState) (n : ℕ) (disk : DiskView) → IsMounted old n disk → size_of disk ≡ disk_on n old
held old n disk m =
    let blocks : disk_size disk ≡ length (encoded old n) = m.mounts.size ∙ ap (λ (array : List (List ℕ)). length array) m.mounts.array in
    rw (m.kept.geometry, blocks) refl

tells : (n : ℕ) (old : DriveState) (ended : Result (Unit {0}) RunFault) (told : Mounting) (size : DiskSize) → told.disk ≡ Some size → size ≡ disk_on n old → TellsMount n old ended told
tells n old ended told size is same = record { disk = rw is same; none = λ none. let bad = none in absurd (cc is) }

-- so it is told
pub mount_told : (n : ℕ) (stop : Stop) (old : DriveState) (disk : DiskView) (ended : Result (Unit {0}) RunFault) (told : Mounting) → IsMounted (drive_of (stopping stop old)) n disk → told.disk ≡ Some (size_of disk) → TellsMount n old ended told
mount_told n stop old disk ended told m is = tells n old ended told (size_of disk) is (held (drive_of (stopping stop old)) n disk m)

-- a run that was refused by a mount ends so
fault_stays : (zones : Bool) (drive : DriveState) (ran ended : Result (Unit {0}) RunFault) (before after : Known) → ThenShows zones drive ran before ended after → IsMountFault ran → IsMountFault ended
fault_stays true drive (Err (runs.Mount fault)) ended before after shown mount = rw shown.0 tt
fault_stays false drive (Err (runs.Mount fault)) ended before after shown mount = rw shown.0 tt
fault_stays zones drive (Ok done) ended before after shown mount = absurd mount
fault_stays zones drive (Err (runs.Line m)) ended before after shown mount = absurd mount
fault_stays zones drive (Err (runs.Long m)) ended before after shown mount = absurd mount
fault_stays zones drive (Err (runs.Disk fault)) ended before after shown mount = absurd mount
fault_stays zones drive (Err (runs.Geometry fault)) ended before after shown mount = absurd mount
fault_stays zones drive (Err runs.Input) ended before after shown mount = absurd mount
fault_stays zones drive (Err runs.Output) ended before after shown mount = absurd mount
fault_stays zones drive (Err runs.Memory) ended before after shown mount = absurd mount

on_mount : (blocks : ℕ) (old drive : DriveState) (zones : Bool) (ran ended : Result (Unit {0}) RunFault) (before after : Known) (told : Mounting)
    → ThenShows zones drive ran before ended after → TellsMount blocks old ran told → TellsMount blocks old ended told
on_mount blocks old drive zones ran ended before after told shown tells =
    record { disk = tells.disk; none = λ none. fault_stays zones drive ran ended before after shown (tells.none none) }

-- where zones are shown after a run that was done, the same is told
pub shown_told : (job : Job) (old drive : DriveState) (zones : Bool) (ran ended : Result (Unit {0}) RunFault) (before after : Known) (told : Mounting)
    → ThenShows zones drive ran before ended after → TellsJob job old ran told → TellsJob job old ended told
shown_told (jobs.Run path blocks zones statistics stop habit sync read_only progress) old drive shows ran ended before after told shown tells = on_mount blocks old drive shows ran ended before after told shown tells
shown_told (jobs.Fresh geometry blocks shown statistics stop habit) old drive shows ran ended before after told then tells = on_mount blocks old drive shows ran ended before after told then tells
shown_told (jobs.Nvme path explain habit sync) old drive shows ran ended before after told shown tells = tells
shown_told (jobs.FreshRaw geometry habit) old drive shows ran ended before after told shown tells = tells
shown_told (jobs.Format path geometry force) old drive shows ran ended before after told shown tells = tells
shown_told (jobs.Report path) old drive shows ran ended before after told shown tells = tells
