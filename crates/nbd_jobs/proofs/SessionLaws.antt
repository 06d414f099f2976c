-- A session is served, whatever ended it.
use Rattle.std.proofs.Common.{◌≡◌, ◌≤◌, ℕ, true, false, List, [], Option, Some, None, Result, Ok, Err, refl, ap, ◌∙◌, arith}
use Rattle.std.specs.Prelude.{Bool, IsTrue, MatchOption}
use Rattle.zone_states.specs.declared.geometry.Geometry.{Geometry}
use Rattle.drive_port.specs.Drive.{DriveState}
use Rattle.drive_port.specs.Stop.{drive_of}
use Rattle.zone_choice.specs.Sane.{KeepsShape}
use Rattle.nbd_session.specs.Failing.{failing}
use Rattle.nbd_session.specs.Served.{since_of}
use Rattle.nbd_session.specs.Store.{StoreView}
use Rattle.nbd_session.specs.Streams.{Streams}
use Rattle.nbd_session.specs.Manners.{always, while_clean}
use Rattle.nbd_session.proofs.WhileLaws.{served-clean}
use Rattle.nbd_session.specs.declared.fault.SessionFault.{SessionFault}
use Rattle.drive_array.specs.Mountable.{IsMountable}
use Rattle.zone_translator.specs.Flat.{Begun, FlatDisk, flush, known_answer, with_nothing}
use Rattle.zone_translator.specs.View.{DiskView, StaysAlike, flat_of, given_size}
use Rattle.zone_translator.specs.Keeping.{KeepsServed}
use Rattle.zone_translator.specs.declared.fault.DiskFault.{DiskFault}
use Rattle.job_drives.specs.DiskSize.{size_of}
use Rattle.job_drives.specs.declared.disk_size.DiskSize.{DiskSize}
use Rattle.nbd_jobs.specs.Begun.{BeginsBy, IsBegun, IsOfDrive}
use Rattle.nbd_jobs.specs.Failing.{fails_in_requests}
use Rattle.nbd_jobs.specs.Forgetting.{ServesStore}
use Rattle.nbd_jobs.specs.Serving.{IsUnserved, ReadsDrive, ReadsFile, ServesByAs, ServesDriveAs, ServesNone, SessionLeaves, SyncsDone, TellsAnyway, TellsSession, served_at, session_end}
use Rattle.nbd_jobs.specs.Laws.{JobWhileClean}
use Rattle.nbd_jobs.proofs.ForgetLaws.{forgets-clean}
use Rattle.nbd_jobs.specs.declared.fault.NbdFault.{NbdFault}
use Rattle.nbd_jobs.specs.declared.fault.NbdFault.TheVariants.{File, Mount, Session, Unflushed}
use Rattle.nbd_jobs.specs.declared.forgetting.Forgotten.{Forgotten}
use Rattle.nbd_jobs.specs.declared.job.Forget.{Forget}
use Rattle.nbd_jobs.specs.declared.job.NbdJob.{NbdJob}

-- ---- the disk with which a session begins

-- it has the size of the one that was mounted
begun-size : (flushes : Bool) (mounted first : DiskView) → BeginsBy flushes mounted first → size_of first ≡ size_of mounted
begun-size false mounted first same = ap size_of same
begun-size true mounted first a =
    let flat = flat-flushed (known_answer (flat_of mounted) flush) (flat_of mounted) (flat_of first) a.flat in
    rw (a.kept.geometry, ap (λ (d : FlatDisk). d.size) flat) refl
  where
    flat-flushed : (known : Option (Result (Unit {0}) DiskFault)) (old new : FlatDisk) → MatchOption known (Begun old flush (Ok tt) [] new) (λ r. (with_nothing (Ok tt) ≡ with_nothing r) × (new ≡ old)) → new ≡ old
    flat-flushed (Some r) old new c = c.1
    flat-flushed None old new c = c.1

-- it can be mounted again
pub begun-mountable : (flushes : Bool) (old : DriveState) (blocks : Option ℕ) (first : DiskView) → IsBegun flushes old blocks first → IsMountable first.drive (given_size first)
begun-mountable flushes old blocks first is = by flushes is.begins
  where
    by : (flushes : Bool) → BeginsBy flushes is.mounted first → IsMountable first.drive (given_size first)
    by false same = rw same is.served.mountable
    by true a = a.kept.mountable

-- ---- a session

-- what a session over a disk that defers nothing leaves
pub record Ends (syncs : SyncsDone) (last : StoreView) (new : DriveState) : Type 0 where
  pub pending : last.pending ≡ []
  pub synced : syncs.after ≡ last.syncs
  pub since : last.since ≡ since_of last.flushes last.disk
  pub drive : new ≡ last.disk.drive

since-flushed : (flushes flushed : Bool) (disk : DiskView) (since : List (List (List ℕ))) → flushed ≡ flushes → since ≡ since_of flushed disk → since ≡ since_of flushes disk
since-flushed flushes flushed disk since same is = is ∙ ap (λ (flushes : Bool). since_of flushes disk) same

-- the disk with which a session begins on a drive, over any device
abbrev pub IsFirst : NbdJob → SyncsDone → DriveState → DiskView → Type 0
IsFirst job syncs old first = (IsTrue first.drive.clean → IsBegun syncs.flushes old job.blocks first) × KeepsShape old first.drive

leaves-disk : (job : NbdJob) (syncs : SyncsDone) (old : DriveState) (first : DiskView) (last : StoreView) (new : DriveState) → IsFirst job syncs old first → StaysAlike first last.disk → last.flushes ≡ syncs.flushes → syncs.before ≤ last.syncs
    → (IsTrue last.disk.drive.clean → KeepsServed first last.disk) → Ends syncs last new → SessionLeaves while_clean syncs first last new
leaves-disk job syncs old first last new is alike flushes counted kept ends = record {
  keeps = λ clean. (kept clean).mounted (begun-mountable syncs.flushes old job.blocks first (is.0 (alike.shape.trusted clean)));
  alike = alike;
  pending = ends.pending;
  since = since-flushed syncs.flushes last.flushes last.disk last.since flushes ends.since;
  synced = ends.synced;
  counted = omega (arith, counted, ends.synced);
  drive = ends.drive;
}

by-told : (forget : Forget) (read_only : Bool) (job : NbdJob) (bytes : Streams) (syncs : SyncsDone) (old : DriveState) (first : DiskView) (ended : Result (Unit {0}) SessionFault) (told : Option Forgotten) (last : StoreView) (new : DriveState)
    → IsFirst job syncs old first → ServesStore (Some forget) bytes (failing (fails_in_requests job.fail) (served_at read_only job.idle syncs first)) ended told last → Ends syncs last new
    → ServesByAs while_clean (Some forget) read_only job bytes syncs old ended told new
by-told forget read_only job bytes syncs old first ended None last new is s ends = absurd s
by-told forget read_only job bytes syncs old first ended (Some told) last new is s ends = (
  record {
    first = first;
    begins = is.0;
    shape = is.1;
    last = last;
    forgets = s.0;
    leaves = leaves-disk job syncs old first last new is s.0.stays.disk s.0.stays.mode.flushes s.0.stays.syncs s.0.kept ends;
  },
  s.1,
)

-- a store that was served is a session of the drive
pub store-served : (forget : Option Forget) (read_only : Bool) (job : NbdJob) (bytes : Streams) (syncs : SyncsDone) (old : DriveState) (first : DiskView) (ended : Result (Unit {0}) SessionFault) (told : Option Forgotten) (last : StoreView) (new : DriveState)
    → IsFirst job syncs old first → ServesStore forget bytes (failing (fails_in_requests job.fail) (served_at read_only job.idle syncs first)) ended told last → Ends syncs last new
    → ServesByAs while_clean forget read_only job bytes syncs old ended told new
store-served None read_only job bytes syncs old first ended told last new is s ends = (
  record {
    first = first;
    begins = is.0;
    shape = is.1;
    last = last;
    serves = s.0.serves;
    leaves = leaves-disk job syncs old first last new is s.0.stays.disk s.0.stays.mode.flushes s.0.stays.syncs s.0.kept ends;
  },
  s.1,
)
store-served (Some forget) read_only job bytes syncs old first ended told last new is s ends = by-told forget read_only job bytes syncs old first ended told last new is s ends

-- where the drive is clean at the end it was so at the beginning
pub first-clean : (forget : Option Forget) (bytes : Streams) (first : StoreView) (ended : Result (Unit {0}) SessionFault) (told : Option Forgotten) (last : StoreView) → ServesStore forget bytes first ended told last
    → IsTrue last.disk.drive.clean → IsTrue first.disk.drive.clean
first-clean None bytes first ended told last s clean = s.0.stays.disk.shape.trusted clean
first-clean (Some forget) bytes first ended None last s clean = absurd s
first-clean (Some forget) bytes first ended (Some told) last s clean = s.0.stays.disk.shape.trusted clean

-- a session that was served is one of the drive, whatever ended it
pub session-served : (read_only : Bool) (job : NbdJob) (bytes : Streams) (syncs : SyncsDone) (old : DriveState) (ended : Result (Unit {0}) SessionFault) (told : Option Forgotten) (new : DriveState)
    → ServesByAs while_clean job.forget read_only job bytes syncs old ended told new → ServesDriveAs while_clean read_only job bytes syncs old (session_end ended) told new
session-served read_only job bytes syncs old (Ok done) told new s = s
session-served read_only job bytes syncs old (Err fault) told new s = s

-- where no session begins, no message is read
pub none-served : (read_only : Bool) (job : NbdJob) (bytes : Streams) (syncs : SyncsDone) (old back : DriveState) (fault : NbdFault) → ServesNone while_clean bytes syncs old job.blocks fault None back
    → ServesDriveAs while_clean read_only job bytes syncs old (Err fault) None back
none-served read_only job bytes syncs old back (Mount fault) none = none
none-served read_only job bytes syncs old back (Unflushed fault) none = none
none-served read_only job bytes syncs old back (Session fault) none = absurd none.kind
none-served read_only job bytes syncs old back (File fault) none = none

-- a drive that was read in the file has no fault of its image
pub file-read : (job : NbdJob) (file : Option (List ℕ)) (bytes : Streams) (ended : Result (Unit {0}) NbdFault) (told : Option Forgotten) → ReadsDrive job file bytes ended told → ReadsFile job file bytes ended told
file-read job file bytes (Ok done) told r = r
file-read job file bytes (Err (Mount fault)) told r = r
file-read job file bytes (Err (Unflushed fault)) told r = r
file-read job file bytes (Err (Session fault)) told r = r
file-read job file bytes (Err (File fault)) told r = absurd r.serves.serves.kind

-- ---- what is told besides

-- a session that was served had a disk
served-some : (ended : Result (Unit {0}) SessionFault) (size : DiskSize) (told : Option DiskSize) → told ≡ Some size → told ≡ None → IsUnserved (session_end ended)
served-some ended size told is none = absurd (cc)

pub session-told : (job : NbdJob) (old : DriveState) (disk : DiskView) (ended : Result (Unit {0}) SessionFault) (counted : Bool) (size : DiskSize) → (flushes : Bool) → IsBegun flushes old job.blocks disk → size ≡ size_of disk → (job.statistics ≡ false → counted ≡ false)
    → TellsSession job old (session_end ended) counted (Some size)
session-told job old disk ended counted size flushes begun is unasked = record {
  size = (begun.mounted, begun.served, is ∙ begun-size flushes begun.mounted disk begun.begins);
  none = λ none. served-some ended size (Some size) refl none;
  unasked = unasked;
}

-- whatever the Reads returned, with the shape of the drive
pub session_told-anyway : (job : NbdJob) (old : DriveState) (disk : DiskView) (ended : Result (Unit {0}) SessionFault) (counted : Bool) (size : DiskSize) → KeepsShape old disk.drive → size ≡ size_of disk → (job.statistics ≡ false → counted ≡ false)
    → TellsAnyway job old.geometry (session_end ended) counted (Some size)
session_told-anyway job old disk ended counted size shape is unasked = record {
  shape = ap (λ (s : DiskSize). s.geometry) is ∙ shape.geometry;
  none = λ none. served-some ended size (Some size) refl none;
  unasked = unasked;
}

-- a drive on which no session begins has none
unserved : (fault : NbdFault) → IsOfDrive fault → IsUnserved (Err fault)
unserved (Mount fault) kind = tt
unserved (Unflushed fault) kind = tt
unserved (Session fault) kind = absurd kind
unserved (File fault) kind = tt

pub none-told : (job : NbdJob) (old : DriveState) (fault : NbdFault) → IsOfDrive fault → TellsSession job old (Err fault) false None
none-told job old fault kind = record { size = tt; none = λ none. unserved fault kind; unasked = λ no. refl }

pub none_told-anyway : (job : NbdJob) (geometry : Geometry) (fault : NbdFault) → IsOfDrive fault → TellsAnyway job geometry (Err fault) false None
none_told-anyway job geometry fault kind = record { shape = tt; none = λ none. unserved fault kind; unasked = λ no. refl }

-- ---- where the drive is clean at the end

clean-along : (old new : DriveState) → new ≡ old → IsTrue new.clean → IsTrue old.clean
clean-along old new same clean = rw same at clean

leaves-clean : (syncs : SyncsDone) (first : DiskView) (last : StoreView) (new : DriveState) → SessionLeaves while_clean syncs first last new → IsTrue last.disk.drive.clean → SessionLeaves always syncs first last new
leaves-clean syncs first last new l clean = record {
  keeps = l.keeps clean;
  alike = l.alike;
  pending = l.pending;
  since = l.since;
  synced = l.synced;
  counted = l.counted;
  drive = l.drive;
}

by-clean : (forget : Option Forget) (read_only : Bool) (job : NbdJob) (bytes : Streams) (syncs : SyncsDone) (old : DriveState) (ended : Result (Unit {0}) SessionFault) (told : Option Forgotten) (new : DriveState)
    → ServesByAs while_clean forget read_only job bytes syncs old ended told new → IsTrue new.clean → ServesByAs always forget read_only job bytes syncs old ended told new
by-clean None read_only job bytes syncs old ended told new s clean =
    let now = clean-along s.0.last.disk.drive new s.0.leaves.drive clean in (
      record {
        first = s.0.first;
        begins = s.0.begins (s.0.leaves.alike.shape.trusted now);
        shape = s.0.shape;
        last = s.0.last;
        serves = served-clean bytes _ ended s.0.last s.0.serves now;
        leaves = leaves-clean syncs s.0.first s.0.last new s.0.leaves now;
      },
      s.1,
    )
by-clean (Some forget) read_only job bytes syncs old ended None new s clean = absurd s
by-clean (Some forget) read_only job bytes syncs old ended (Some told) new s clean =
    let now = clean-along s.0.last.disk.drive new s.0.leaves.drive clean in (
      record {
        first = s.0.first;
        begins = s.0.begins (s.0.leaves.alike.shape.trusted now);
        shape = s.0.shape;
        last = s.0.last;
        forgets = forgets-clean forget bytes _ s.0.last told s.0.forgets now;
        leaves = leaves-clean syncs s.0.first s.0.last new s.0.leaves now;
      },
      s.1,
    )

none-clean : (bytes : Streams) (syncs : SyncsDone) (old : DriveState) (blocks : Option ℕ) (fault : NbdFault) (told : Option Forgotten) (new : DriveState) → ServesNone while_clean bytes syncs old blocks fault told new → IsTrue new.clean
    → ServesNone always bytes syncs old blocks fault told new
none-clean bytes syncs old blocks fault told new n clean = record { why = n.why clean; kind = n.kind; shape = n.shape; nothing = n.nothing; untold = n.untold }

drive-clean : (read_only : Bool) (job : NbdJob) (bytes : Streams) (syncs : SyncsDone) (old : DriveState) (ended : Result (Unit {0}) NbdFault) (told : Option Forgotten) (new : DriveState)
    → ServesDriveAs while_clean read_only job bytes syncs old ended told new → IsTrue new.clean → ServesDriveAs always read_only job bytes syncs old ended told new
drive-clean read_only job bytes syncs old (Ok done) told new s clean = by-clean job.forget read_only job bytes syncs old (Ok tt) told new s clean
drive-clean read_only job bytes syncs old (Err (Session fault)) told new s clean = by-clean job.forget read_only job bytes syncs old (Err fault) told new s clean
drive-clean read_only job bytes syncs old (Err (Mount fault)) told new s clean = none-clean bytes syncs old job.blocks (Mount fault) told new s clean
drive-clean read_only job bytes syncs old (Err (Unflushed fault)) told new s clean = none-clean bytes syncs old job.blocks (Unflushed fault) told new s clean
drive-clean read_only job bytes syncs old (Err (File fault)) told new s clean = none-clean bytes syncs old job.blocks (File fault) told new s clean

pub job-while_clean : JobWhileClean
job-while_clean read_only job bytes syncs device ended told new s clean = record {
  seen = s.seen;
  serves = drive-clean read_only job bytes syncs (drive_of device) ended told s.seen s.serves (rw s.clean at clean);
  geometry = s.geometry;
  zones = s.zones;
  durable = s.durable;
  clean = s.clean;
}
