-- What makes durable what a drive has completed.
use Rattle.std.specs.Prelude.{◌≡◌, ℕ, ◌<◌, ◌≤◌, Bool, true, false, IsTrue, Option, Result, Ok, Err}
use Rattle.drive_port.specs.Answering.{FlushAnswers}
use Rattle.drive_port.specs.Drive.{DriveState}
use Rattle.drive_port.specs.declared.calls.PortFault.{PortFault}
use Rattle.job_drives.specs.Stop.{stopping}
use Rattle.nbd_jobs.specs.Serving.{ServesStoppingAs, SyncsDone}
use Rattle.nbd_jobs.specs.declared.fault.NbdFault.{NbdFault}
use Rattle.nbd_jobs.specs.declared.forgetting.Forgotten.{Forgotten}
use Rattle.nbd_jobs.specs.declared.job.NbdJob.{NbdJob}
use Rattle.nbd_session.specs.Manners.{while_clean}
use Rattle.nbd_session.specs.Streams.{Streams}
use Rattle.device_jobs.specs.declared.hardening.HardenFault.{HardenFault}
use Rattle.device_jobs.specs.declared.hardening.HardenFault.TheVariants as faults

-- The drive is flushed where a sync of its medium is that. Otherwise nothing is sent to it.
abbrev pub FlushesBy : Bool → DriveState → Result (Unit {0}) PortFault → DriveState → Type 0
FlushesBy true old result new = FlushAnswers old result new
FlushesBy false old result new = (result ≡ Ok tt) × (new ≡ old)

-- how many syncs a medium has completed, before and after
pub record Synced : Type 0 where
  pub before : ℕ
  pub after : ℕ

-- Done, the drive was flushed where that is to be done, and a sync more was completed. Refused, the Flush was not done,
-- or the medium failed after it.
abbrev pub Hardens : Bool → Synced → DriveState → Result (Unit {0}) HardenFault → DriveState → Type 0
Hardens flushes syncs old (Ok done) new = FlushesBy flushes old (Ok tt) new × (syncs.before < syncs.after)
Hardens flushes syncs old (Err (faults.Drive fault)) new = FlushesBy flushes old (Err fault) new × (syncs.after ≡ syncs.before)
Hardens flushes syncs old (Err faults.Medium) new = FlushesBy flushes old (Ok tt) new × (syncs.before ≤ syncs.after)

-- A session is served over a device, read only if the job says so, and what was forgotten is told: while the drive is
-- clean, by the disk of the drive. Then what the drive has completed is made durable, which makes no drive clean again.
pub record ServesAndHardens (job : NbdJob) (bytes : Streams) (syncs : SyncsDone) (old : DriveState)
    (ended : Result (Unit {0}) NbdFault) (told : Option Forgotten) (hardened : Result (Unit {0}) HardenFault) (new : DriveState) : Type 0 where
  pub left : DriveState
  pub middle : ℕ
  pub serves : ServesStoppingAs while_clean job.read_only job bytes (record syncs { after = middle }) (stopping job.stop old) ended told left
  pub hardens : Hardens syncs.flushes (record { before = middle; after = syncs.after }) left hardened new
  pub trusted : IsTrue new.clean → IsTrue left.clean
