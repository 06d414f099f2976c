-- What a loss of power leaves of a drive that was served and flushed.
use Rattle.std.proofs.Common.{◌≡◌, ℕ, true, false, Option, inl, inr}
use Rattle.std.specs.Prelude.{Bool}
use Rattle.drive_port.specs.Drive.{DriveState}
use Rattle.job_drives.specs.Mounted.{IsServed, given_of}
use Rattle.zone_translator.specs.Laws.{CanMountAgain}
use Rattle.zone_translator.specs.View.{DiskView}
use Rattle.zone_translator.proofs.AgainLaws.{called-can, mounted-can}
use Rattle.nbd_session.specs.Laws.{IsSafe}
use Rattle.nbd_session.proofs.SafeLaws.{flush-safe, left-found, session-safe}
use Rattle.nbd_jobs.specs.Laws.{LossIsFound}
use Rattle.nbd_jobs.specs.Begun.{IsBegun}

-- a disk that is served can be mounted again
served-can : (old : DriveState) (blocks : Option ℕ) (disk : DiskView) → IsServed old blocks disk → CanMountAgain disk
served-can old blocks disk served =
    elim served.mounted [
      | inl mounted ↦ mounted-can old (given_of blocks) disk mounted
      | inr again ↦ mounted-can again.1.seen 2 disk again.1.again
    ]

-- the disk with which a flushed session begins is safe
begun-safe : (flushes : Bool) (old : DriveState) (blocks : Option ℕ) (first : DiskView) → flushes ≡ true → IsBegun flushes old blocks first → CanMountAgain first × IsSafe first
begun-safe false old blocks first is begun = absurd (cc is)
begun-safe true old blocks first is begun =
    let can = served-can old blocks begun.mounted begun.served in
    (called-can begun.mounted first can begun.begins.kept, flush-safe begun.mounted first can begun.begins)

pub loss-found : LossIsFound
loss-found job read_only bytes syncs old ended new session flushes zones left =
    let begun = begun-safe syncs.flushes old job.blocks session.first flushes session.begins in
    let safe = session-safe bytes _ ended session.last session.serves begun.0 begun.1 in
    let there = rw session.leaves.drive at left in
    record {
      can = rw session.leaves.drive (safe zones there);
      found = λ again mounts. rw (session.leaves.since, flushes) (left-found session.last.disk again zones there (rw session.leaves.drive at mounts));
    }
