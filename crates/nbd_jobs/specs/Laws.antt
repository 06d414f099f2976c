-- What a loss of power leaves of a drive that is served and flushed, and what is left of a disk that forgets.
use Rattle.std.specs.Prelude.{◌≡◌, ℕ, Bool, true, false, List, [], Contains, IfOk, IsTrue, Option, Result, slice_index_or}
use Rattle.std.proofs.Common.{inl, inr}
use Rattle.zone_states.specs.Zone.{Zone}
use Rattle.drive_port.specs.Drive.{DriveState}
use Rattle.drive_port.specs.Run.{restarted}
use Rattle.drive_port.specs.Stop.{Stopping}
use Rattle.remount.specs.Mount.{IsToMount}
use Rattle.zone_translator.specs.Mount.{MountsDisk}
use Rattle.zone_translator.specs.View.{DiskView, disk_array, given_size}
use Rattle.nbd_session.specs.Manners.{while_clean}
use Rattle.nbd_session.specs.Requests.{asked_of_store, data_length}
use Rattle.nbd_session.specs.Session.{AnswersIn, AnswersMessage, ServesRequest, Session, session}
use Rattle.nbd_session.specs.Store.{StoreView}
use Rattle.nbd_session.specs.Streams.{Streams}
use Rattle.nbd_session.specs.Turns.{Serves}
use Rattle.nbd_session.specs.declared.fault.SessionFault.{SessionFault}
use Rattle.nbd_session.specs.declared.phase.Phase.{Phase}
use Rattle.nbd_session.specs.declared.phase.Phase.TheVariants as phases
use Rattle.volatile_cache.specs.Laws.{IsSettled, LeavesOut}
use Rattle.volatile_cache.specs.Outcomes.{cached}
use Rattle.nbd_jobs.specs.Failing.{fails_in_requests}
use Rattle.nbd_jobs.specs.Forgetting.{Forgets}
use Rattle.nbd_jobs.specs.Serving.{ServesForgetting, ServesSession, ServesStopping, ServesStoppingAs, SyncsDone, served_at}
use Rattle.nbd_jobs.specs.declared.fault.NbdFault.{NbdFault}
use Rattle.nbd_jobs.specs.declared.forgetting.Forgotten.{Forgotten}
use Rattle.nbd_jobs.specs.declared.job.Forget.{Forget}
use Rattle.nbd_jobs.specs.declared.job.NbdJob.{NbdJob}

-- A loss of power leaves these zones of a drive on which a session was served. They can be mounted, and a mount finds
-- one of the arrays that the session says may be left: those since the last FLUSH that was answered by success.
pub record IsFoundAfter (job : NbdJob) (read_only : Bool) (bytes : Streams) (syncs : SyncsDone) (old : DriveState)
    (ended : Result (Unit {0}) SessionFault) (new : DriveState) (session : ServesSession read_only job bytes syncs old ended new)
    (zones : List Zone) : Type 0 where
  pub can : IsToMount (restarted (record new { zones = zones })) (given_size session.last.disk)
  pub found : (again : DiskView) → MountsDisk (restarted (record new { zones = zones })) (given_size session.last.disk) again
      → Contains session.last.since (disk_array again)

abbrev pub LossIsFound : Type 0
LossIsFound =
    (job : NbdJob) (read_only : Bool) (bytes : Streams) (syncs : SyncsDone) (old : DriveState) (ended : Result (Unit {0}) SessionFault)
    (new : DriveState) (session : ServesSession read_only job bytes syncs old ended new) → syncs.flushes ≡ true
    → (zones : List Zone) → Contains new.durable zones → IsFoundAfter job read_only bytes syncs old ended new session zones

-- ---- a disk that forgets

-- A request does not change a block: if the store takes it, it does not name the block to be written.
abbrev pub LeavesRequest : ℕ → (passes : Bool) → (old : StoreView) → (message reply : List ℕ) → (new : Session) → ServesRequest passes old message reply new → Type 0
LeavesRequest place passes old message reply new answers =
    IfOk (asked_of_store old answers.request) (LeavesOut old.disk.drive.geometry.block (data_length answers.request) place)

-- Nor does a message: no request of it does. A store in which blocks are pending does no requests together.
abbrev pub LeavesBlock : ℕ → (together passes : Bool) → (phase : Phase) → (old : StoreView) → (message reply : List ℕ) → (new : Session) → AnswersIn together passes phase old message reply new → Type 0
LeavesBlock place true passes phases.Transmission old message reply new (inl answers) = LeavesRequest place passes old message reply new answers
LeavesBlock place true passes phases.Transmission old message reply new (inr group) = old.defers ≡ true
LeavesBlock place false passes phases.Transmission old message reply new answers = LeavesRequest place passes old message reply new answers
LeavesBlock place together passes phase old message reply new answers = Unit {0}

-- A message that does not change a settled block leaves it settled. A FLUSH, or a write with FUA, that is answered by
-- success settles what it names (`volatile_cache`).
abbrev pub MessageKeepsSettled : Type 0
MessageKeepsSettled =
    (together passes : Bool) (old : Session) (message reply : List ℕ) (new : Session) (answers : AnswersMessage together passes old message reply new) (place : ℕ) (block : List ℕ)
    → LeavesBlock place together passes old.phase old.store message reply new answers → IsSettled place block old.store → IsSettled place block new.store

-- A block that is settled when a session ends is in what is left, however it ended, and whatever was lost.
abbrev pub SettledIsLeft : Type 0
SettledIsLeft =
    (forget : Forget) (read_only : Bool) (job : NbdJob) (bytes : Streams) (syncs : SyncsDone) (old : DriveState) (told : Forgotten) (new : DriveState)
    (session : ServesForgetting forget read_only job bytes syncs old told new) (place : ℕ) (block : List ℕ)
    → IsSettled place block (cached session.forgets.below session.forgets.mine) → slice_index_or (disk_array session.last.disk) place [] ≡ block

-- ---- a medium that fails

-- If the medium is not to fail, a session is one of the disk as it is, and so is a session of a disk that forgets.
abbrev pub UnaskedIsServed : Type 0
UnaskedIsServed =
    (read_only : Bool) (job : NbdJob) (bytes : Streams) (syncs : SyncsDone) (old : DriveState) (ended : Result (Unit {0}) SessionFault) (new : DriveState)
    (served : ServesSession read_only job bytes syncs old ended new) → fails_in_requests job.fail ≡ false
    → Serves bytes (session phases.Greeting (served_at read_only job.idle syncs served.first)) ended served.last

abbrev pub UnaskedIsForgotten : Type 0
UnaskedIsForgotten =
    (forget : Forget) (read_only : Bool) (job : NbdJob) (bytes : Streams) (syncs : SyncsDone) (old : DriveState) (told : Forgotten) (new : DriveState)
    (served : ServesForgetting forget read_only job bytes syncs old told new) → fails_in_requests job.fail ≡ false
    → Forgets forget bytes (served_at read_only job.idle syncs served.first) told served.last

-- ---- over any device

-- Over a device whose Reads may lie, a session after which the drive is clean is one over an honest device.
abbrev pub JobWhileClean : Type 0
JobWhileClean =
    (read_only : Bool) (job : NbdJob) (bytes : Streams) (syncs : SyncsDone) (device : Stopping) (ended : Result (Unit {0}) NbdFault) (told : Option Forgotten) (new : DriveState)
    → ServesStoppingAs while_clean read_only job bytes syncs device ended told new → IsTrue new.clean → ServesStopping read_only job bytes syncs device ended told new
