-- A drive in a file that is served: what its session does, and what it leaves in the file.
use Rattle.std.specs.Prelude.{◌≡◌, ◌≤◌, ◌&&◌, not, Bool, true, false, ℕ, List, [], Option, None, Some, Result, Ok, Err, IfSome, IsSomeAnd, ⊤}
use Rattle.std.specs.Io.KnownBytes.{Keeps}
use Rattle.zone_choice.specs.Sane.{KeepsShape}
use Rattle.zone_states.specs.declared.geometry.Geometry.{Geometry}
use Rattle.drive_port.specs.Drive.{DriveState}
use Rattle.drive_port.specs.Stop.{Stopping, drive_of}
use Rattle.job_drives.specs.Kept.{IsRestarted}
use Rattle.job_drives.specs.Left.{IsUnread}
use Rattle.job_drives.specs.declared.kept_drive.Begun.{Begun}
use Rattle.zone_translator.specs.View.{DiskView, KeepsDisk, StaysAlike}
use Rattle.job_drives.specs.DiskSize.{size_of}
use Rattle.job_drives.specs.Mounted.{IsServed}
use Rattle.job_drives.specs.Stop.{stopping}
use Rattle.job_drives.specs.declared.disk_size.DiskSize.{DiskSize}
use Rattle.nbd_session.specs.Failing.{failing}
use Rattle.nbd_session.specs.Served.{since_of}
use Rattle.nbd_session.specs.Manners.{Manner, always}
use Rattle.nbd_session.specs.Session.{session}
use Rattle.nbd_session.specs.Store.{StoreView}
use Rattle.nbd_session.specs.Streams.{Streams}
use Rattle.nbd_session.specs.Turns.{ServesAs}
use Rattle.nbd_session.specs.declared.fault.SessionFault.{SessionFault}
use Rattle.nbd_session.specs.declared.fault.SessionFault.TheVariants.{Unsent}
use Rattle.nbd_session.specs.declared.phase.Phase.TheVariants.{Greeting}
use Rattle.nbd_jobs.specs.declared.fault.NbdFault.{NbdFault}
use Rattle.nbd_jobs.specs.declared.fault.NbdFault.TheVariants.{File, Session}
use Rattle.nbd_jobs.specs.declared.forgetting.Forgotten.{Forgotten}
use Rattle.nbd_jobs.specs.declared.job.Forget.{Forget}
use Rattle.nbd_jobs.specs.declared.job.NbdJob.{NbdJob}
use Rattle.nbd_jobs.specs.Begun.{IsBegun, IsNotBegun, IsOfDrive}
use Rattle.nbd_jobs.specs.Failing.{fails_in_requests}
use Rattle.nbd_jobs.specs.Forgetting.{ForgetsAs, ends_well}

-- ---- the session

-- how many syncs the medium of a drive has completed, before a session and after it, and whether each is a Flush of
-- the drive
pub record SyncsDone : Type 0 where
  pub before : ℕ
  pub after : ℕ
  pub flushes : Bool

-- A disk that defers nothing, perhaps read only. If it is not, and the job says so, it cleans. Its medium has completed
-- that many syncs, and fails in nothing else. Where they are no Flushes the drive keeps each write at once.
abbrev pub served_at : Bool → Bool → SyncsDone → DiskView → StoreView
served_at read_only idle syncs disk = record {
  disk = disk;
  pending = [];
  since = since_of syncs.flushes disk;
  syncs = syncs.before;
  read_only = read_only;
  cleans = idle && not read_only;
  flushes = syncs.flushes;
  defers = false;
  fails = false;
}

-- What a session leaves of the disk with which it began. That can be mounted again, with the array that was answered. Nothing is pending, and each sync
-- was one of the medium. A loss of power leaves one of the arrays of `since`. Whatever the Reads returned, shape and size stay.
pub record SessionLeaves (manner : Manner) (syncs : SyncsDone) (first : DiskView) (last : StoreView) (new : DriveState) : Type 0 where
  pub keeps : manner.Holds last.disk.drive.clean (KeepsDisk first last.disk)
  pub alike : StaysAlike first last.disk
  pub pending : last.pending ≡ []
  pub since : last.since ≡ since_of syncs.flushes last.disk
  pub synced : syncs.after ≡ last.syncs
  pub counted : syncs.before ≤ syncs.after
  pub drive : new ≡ last.disk.drive

-- A session is served by the disk of a drive, or by that disk read only, and each sync is one of its medium. If the job says so, the medium may fail in
-- a request, and then nothing is done.
pub record ServesSessionAs (manner : Manner) (read_only : Bool) (job : NbdJob) (bytes : Streams) (syncs : SyncsDone) (old : DriveState)
    (ended : Result (Unit {0}) SessionFault) (new : DriveState) : Type 0 where
  pub first : DiskView
  pub begins : manner.Holds first.drive.clean (IsBegun syncs.flushes old job.blocks first)
  pub shape : KeepsShape old first.drive
  pub last : StoreView
  pub serves : ServesAs manner bytes (session Greeting (failing (fails_in_requests job.fail) (served_at read_only job.idle syncs first))) ended last
  pub leaves : SessionLeaves manner syncs first last new

-- The same by a disk that forgets. Its client is answered by that disk with the blocks that are pending above it. At the
-- end these are applied, or the power is cut, and this is told. What is left can be mounted again, with the array that
-- is left, and nothing is pending. A request in which the medium failed has no pending blocks.
pub record ServesForgettingAs (manner : Manner) (forget : Forget) (read_only : Bool) (job : NbdJob) (bytes : Streams) (syncs : SyncsDone) (old : DriveState)
    (told : Forgotten) (new : DriveState) : Type 0 where
  pub first : DiskView
  pub begins : manner.Holds first.drive.clean (IsBegun syncs.flushes old job.blocks first)
  pub shape : KeepsShape old first.drive
  pub last : StoreView
  pub forgets : ForgetsAs manner forget bytes (failing (fails_in_requests job.fail) (served_at read_only job.idle syncs first)) told last
  pub leaves : SessionLeaves manner syncs first last new

-- a session by the disk or, if that is asked for, by one that forgets; and what is told of what was pending
abbrev pub ServesByAs : Manner → Option Forget → Bool → NbdJob → Streams → SyncsDone → DriveState → Result (Unit {0}) SessionFault → Option Forgotten → DriveState → Type 0
ServesByAs manner None read_only job bytes syncs old ended told new = ServesSessionAs manner read_only job bytes syncs old ended new × (told ≡ None)
ServesByAs manner (Some forget) read_only job bytes syncs old ended told new =
    IsSomeAnd told (λ told. ServesForgettingAs manner forget read_only job bytes syncs old told new × (ended ≡ ends_well told.ended))

-- the end of a session, as it is told
abbrev pub session_end : Result (Unit {0}) SessionFault → Result (Unit {0}) NbdFault
session_end (Ok done) = Ok tt
session_end (Err fault) = Err (Session fault)

-- no message is read, nothing is written, and nothing is synced
pub record ServesNothing (bytes : Streams) (syncs : SyncsDone) : Type 0 where
  pub unread : Keeps bytes.input bytes.rest
  pub unwritten : Keeps bytes.written bytes.contents
  pub unsynced : syncs.after ≡ syncs.before

-- Why no session begins on a drive: a fault of its own. It is given back with the same shape, and nothing is told of what was pending.
pub record ServesNone (manner : Manner) (bytes : Streams) (syncs : SyncsDone) (old : DriveState) (blocks : Option ℕ) (fault : NbdFault)
    (told : Option Forgotten) (new : DriveState) : Type 0 where
  pub why : manner.Holds new.clean (IsNotBegun syncs.flushes old blocks fault new)
  pub kind : IsOfDrive fault
  pub shape : KeepsShape old new
  pub nothing : ServesNothing bytes syncs
  pub untold : told ≡ None

-- what is served of a drive, what is told of what was pending, and what is left of the drive
abbrev pub ServesDriveAs : Manner → Bool → NbdJob → Streams → SyncsDone → DriveState → Result (Unit {0}) NbdFault → Option Forgotten → DriveState → Type 0
ServesDriveAs manner read_only job bytes syncs old (Ok done) told new = ServesByAs manner job.forget read_only job bytes syncs old (Ok tt) told new
ServesDriveAs manner read_only job bytes syncs old (Err (Session fault)) told new = ServesByAs manner job.forget read_only job bytes syncs old (Err fault) told new
ServesDriveAs manner read_only job bytes syncs old (Err fault) told new = ServesNone manner bytes syncs old job.blocks fault told new

-- the same over a device that stops, and leaves the zones of this drive, with what is durable of them
pub record ServesStoppingAs (manner : Manner) (read_only : Bool) (job : NbdJob) (bytes : Streams) (syncs : SyncsDone) (device : Stopping)
    (ended : Result (Unit {0}) NbdFault) (told : Option Forgotten) (new : DriveState) : Type 0 where
  pub seen : DriveState
  pub serves : ServesDriveAs manner read_only job bytes syncs (drive_of device) ended told seen
  pub geometry : new.geometry ≡ seen.geometry
  pub zones : new.zones ≡ seen.zones
  pub durable : new.durable ≡ seen.durable
  pub clean : new.clean ≡ seen.clean

-- ---- in any case

abbrev pub ServesSession : Bool → NbdJob → Streams → SyncsDone → DriveState → Result (Unit {0}) SessionFault → DriveState → Type 0
ServesSession read_only job bytes syncs old ended new = ServesSessionAs always read_only job bytes syncs old ended new

abbrev pub ServesForgetting : Forget → Bool → NbdJob → Streams → SyncsDone → DriveState → Forgotten → DriveState → Type 0
ServesForgetting forget read_only job bytes syncs old told new = ServesForgettingAs always forget read_only job bytes syncs old told new

abbrev pub ServesStopping : Bool → NbdJob → Streams → SyncsDone → Stopping → Result (Unit {0}) NbdFault → Option Forgotten → DriveState → Type 0
ServesStopping read_only job bytes syncs device ended told new = ServesStoppingAs always read_only job bytes syncs device ended told new

-- ---- the file

-- no disk was served
abbrev pub IsUnserved : Result (Unit {0}) NbdFault → Type 0
IsUnserved (Ok done) = ⊥
IsUnserved (Err (Session fault)) = ⊥
IsUnserved (Err fault) = ⊤

-- What is told of a session besides: the size of the disk that was served of this drive, if one was; and what was counted only if the job asks for it.
pub record TellsSession (job : NbdJob) (old : DriveState) (ended : Result (Unit {0}) NbdFault) (counted : Bool) (told : Option DiskSize) : Type 0 where
  pub size : IfSome told (λ size. (disk : DiskView) × IsServed old job.blocks disk × (size ≡ size_of disk))
  pub none : told ≡ None → IsUnserved ended
  pub unasked : job.statistics ≡ false → counted ≡ false

-- The same whatever the Reads returned: the shape of the drive, and what was counted only if the job asks for it.
pub record TellsAnyway (job : NbdJob) (geometry : Geometry) (ended : Result (Unit {0}) NbdFault) (counted : Bool) (told : Option DiskSize) : Type 0 where
  pub shape : IfSome told (λ size. size.geometry ≡ geometry)
  pub none : told ≡ None → IsUnserved ended
  pub unasked : job.statistics ≡ false → counted ≡ false

-- What is done to the drive in a file: a session is served over a device that stops, and it is told which disk was served, what was counted, and what
-- was forgotten.
pub record ServesKept (job : NbdJob) (bytes : Streams) (syncs : SyncsDone) (ended : Result (Unit {0}) NbdFault) (counted : Bool) (told : Option DiskSize)
    (forgotten : Option Forgotten) (old new : DriveState) : Type 0 where
  pub serves : ServesStopping false job bytes syncs (stopping job.stop old) ended forgotten new
  pub tells : TellsSession job (drive_of (stopping job.stop old)) ended counted told

-- why there is no drive: the bytes of the file have this first fault. Nothing is served.
abbrev pub HoldsNoDrive : Option (List ℕ) → Streams → SyncsDone → Result (Unit {0}) NbdFault → Option Forgotten → Type 0
HoldsNoDrive file bytes syncs (Err (File fault)) told = IsUnread file fault × ServesNothing bytes syncs × (told ≡ None)
HoldsNoDrive file bytes syncs ended told = ⊥

-- The drive that the bytes of a file hold is restarted, and served read only. What it is afterwards goes nowhere. As nothing is written, its medium
-- has nothing to keep; it has completed these syncs.
pub record ReadsDrive (job : NbdJob) (file : Option (List ℕ)) (bytes : Streams) (ended : Result (Unit {0}) NbdFault) (told : Option Forgotten) : Type 0 where
  pub first : Begun
  pub begins : IsRestarted file job.habit first
  pub syncs : SyncsDone
  pub drive : DriveState
  pub serves : ServesStopping true job bytes syncs (stopping job.stop first.drive.state) ended told drive

-- before and after, no sync was completed
abbrev pub no_syncs : SyncsDone
no_syncs = record { before = 0; after = 0; flushes = false }

-- what is served read only of a file; a fault of its image comes before all else
abbrev pub ReadsFile : NbdJob → Option (List ℕ) → Streams → Result (Unit {0}) NbdFault → Option Forgotten → Type 0
ReadsFile job file bytes (Err (File fault)) told = HoldsNoDrive file bytes no_syncs (Err (File fault)) told
ReadsFile job file bytes ended told = ReadsDrive job file bytes ended told

-- A session that was done, but whose last replies could not be sent, ended by that.
abbrev pub sent_end : Result (Unit {0}) NbdFault → Bool → Result (Unit {0}) NbdFault
sent_end (Ok done) false = Err (Session Unsent)
sent_end ended sent = ended
