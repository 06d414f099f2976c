-- A line that is taken is answered, or not.
use Rattle.std.proofs.Common.{◌≡◌, ℕ, true, false, List, Some, Ok, Err, inl, inr, refl, subst, sym}
use Rattle.std.specs.Prelude.{Bool, IfErr, IsErrAnd, Result}
use Rattle.disk_files.specs.TraceLine.{is_skipped, trace_line}
use Rattle.disk_files.specs.declared.trace_line.TraceLine.{TraceLine}
use Rattle.drive_survey.specs.declared.fault.MountFault.{MountFault}
use Rattle.zone_translator.specs.View.{DiskView, flat_of}
use Rattle.zone_translator.specs.declared.fault.DiskFault.{DiskFault}
use Rattle.disk_runs.specs.FlatLines.{AnswersRequest, RequestStops, asked}
use Rattle.disk_runs.specs.Run.{IsAnswered, LineStops}
use Rattle.disk_runs.specs.Taken.{AnswersWith, FlushesIf, RefusesWith, disk_lines, flushes, is_flushed, takes, takes_call}
use Rattle.disk_runs.specs.Trace.{AnswersLine, Does, EndCause, HasCause, KeepsFault, RefusesLine, StopsBy}
use Rattle.disk_runs.specs.declared.fault.RunFault.{RunFault}
use Rattle.disk_runs.specs.declared.fault.RunFault.TheVariants as runs
use Rattle.disk_runs.specs.declared.fault.RunFault.TheVariants.{Line, Disk, Mount, Memory}
use Rattle.disk_runs.specs.declared.taking.Taking.{Taking}
use Rattle.disk_runs.specs.declared.taking.Taking.TheVariants.{All, Reads, Synced}

-- ---- which lines are taken

-- a line that is not skipped says this, with this data
pub record Says (line : List ℕ) (call : TraceLine) (bytes : List ℕ) : Type 0 where
  pub some : is_skipped line ≡ false
  pub said : trace_line line ≡ Some (call, bytes)

taken_by_call : (taking : Taking) (size : ℕ) (line : List ℕ) (call : TraceLine) (bytes : List ℕ) → Says line call bytes → takes taking size line ≡ takes_call taking size call bytes
taken_by_call All size line call bytes s = rw (s.some, s.said) refl
taken_by_call Reads size line call bytes s = rw (s.some, s.said) refl
taken_by_call Synced size line call bytes s = rw (s.some, s.said) refl

pub flushed_by_call : (taking : Taking) (line : List ℕ) (call : TraceLine) (bytes : List ℕ) → Says line call bytes → is_flushed taking line ≡ flushes taking call
flushed_by_call All line call bytes s = refl
flushed_by_call Reads line call bytes s = refl
flushed_by_call Synced line call bytes s = rw (s.some, s.said) refl

pub not_taken : (taking : Taking) (size : ℕ) (line bytes : List ℕ) (call : TraceLine) → Says line call bytes → takes_call taking size call bytes ≡ false → takes taking size line ≡ false
not_taken taking size line bytes call says not = rw (taken_by_call taking size line call bytes says) not

pub taken_legal : (taking : Taking) (size : ℕ) (line bytes : List ℕ) (call : TraceLine) → Says line call bytes → takes_call taking size call bytes ≡ true → takes taking size line ≡ true
taken_legal taking size line bytes call says taken = rw (taken_by_call taking size line call bytes says) taken

-- ---- what is answered

-- one that is answered
answers_said : (old new : DiskView) (line reply bytes : List ℕ) (call : TraceLine) → Says line call bytes → AnswersRequest (flat_of old) (asked old.drive.geometry.block call bytes) reply (flat_of new) → Does call bytes (Ok tt) old new → new.drive.durable ≡ old.drive.durable
    → AnswersLine old line reply new
answers_said old new line reply bytes call s flat does durable = record { flat = rw (s.some, s.said) flat; does = rw (s.some, s.said) does; durable = durable }

-- what was done of a line that is taken
pub record IsDone (taking : Taking) (old : DiskView) (line reply bytes : List ℕ) (call : TraceLine) (new : DiskView) : Type 0 where
  pub says : Says line call bytes
  pub taken : takes_call taking old.drive.geometry.block call bytes ≡ true
  pub flat : AnswersRequest (flat_of old) (asked old.drive.geometry.block call bytes) reply (flat_of new)
  pub does : Does call bytes (Ok tt) old new
  pub durable : new.drive.durable ≡ old.drive.durable

with_flush : (flushed : Bool) (old middle new : DiskView) (line reply : List ℕ) → AnswersLine old line reply middle → FlushesIf flushed middle (Ok tt) new → AnswersWith flushed old line reply new
with_flush false old middle new line reply a f = rw f.1 a
with_flush true old middle new line reply a f = record { middle = middle; answers = a; flushed = f }

without_flush : (flushed : Bool) (fault : DiskFault) (old middle new : DiskView) (line reply : List ℕ) → AnswersLine old line reply middle → FlushesIf flushed middle (Err fault) new → RefusesWith flushed old line (Disk fault) new
without_flush false fault old middle new line reply a f = let bad = f.0 in absurd (cc)
without_flush true fault old middle new line reply a f = inr (reply, record { middle = middle; answers = a; flushed = f })

-- and flushed, where a flush follows it
pub answered : (taking : Taking) (old middle new : DiskView) (line reply bytes : List ℕ) (call : TraceLine) → IsDone taking old line reply bytes call middle → FlushesIf (flushes taking call) middle (Ok tt) new → IsAnswered (disk_lines taking) old line reply new
answered taking old middle new line reply bytes call done f =
    let a = answers_said old middle line reply bytes call done.says done.flat done.does done.durable in
    record {
      legal = taken_legal taking old.drive.geometry.block line bytes call done.says done.taken;
      answers = with_flush (is_flushed taking line) old middle new line reply a (rw (flushed_by_call taking line call bytes done.says) f);
    }

-- or not: its flush was refused
pub unflushed : (taking : Taking) (number : ℕ) (fault : DiskFault) (old middle new : DiskView) (line reply bytes : List ℕ) (call : TraceLine) → IsDone taking old line reply bytes call middle → FlushesIf (flushes taking call) middle (Err fault) new
    → LineStops (disk_lines taking) number old line (Disk fault) new
unflushed taking number fault old middle new line reply bytes call done f =
    let a = answers_said old middle line reply bytes call done.says done.flat done.does done.durable in (
      taken_legal taking old.drive.geometry.block line bytes call done.says done.taken,
      without_flush (is_flushed taking line) fault old middle new line reply a (rw (flushed_by_call taking line call bytes done.says) f),
    )

-- ---- what is refused

-- a fault that is handed on
pub if_err : (result : Result (Unit {0}) RunFault) (fault : RunFault) (P : RunFault → Type 0) → IsErrAnd result (λ e. e ≡ fault) → P fault → IfErr result P
if_err (Ok done) fault P is p = absurd is
if_err (Err e) fault P is p = subst P (sym is) p

-- why a line that is taken has no reply
pub record IsNotDone (taking : Taking) (old : DiskView) (line bytes : List ℕ) (call : TraceLine) (fault : RunFault) (new : DiskView) : Type 0 where
  pub says : Says line call bytes
  pub taken : takes_call taking old.drive.geometry.block call bytes ≡ true
  pub flat : RequestStops (flat_of old) (asked old.drive.geometry.block call bytes) fault (flat_of new)
  pub cause : HasCause (EndCause new) fault
  pub keeps : KeepsFault fault old new
  pub does : StopsBy fault call bytes old new
  pub durable : new.drive.durable ≡ old.drive.durable

refuses_disk : (flushed : Bool) (fault : DiskFault) (old new : DiskView) (line : List ℕ) → RefusesLine old line (Disk fault) new → RefusesWith flushed old line (Disk fault) new
refuses_disk false fault old new line r = r
refuses_disk true fault old new line r = inl r

refuses_mount : (flushed : Bool) (fault : MountFault) (old new : DiskView) (line : List ℕ) → RefusesLine old line (Mount fault) new → RefusesWith flushed old line (Mount fault) new
refuses_mount false fault old new line r = r
refuses_mount true fault old new line r = r

pub refused : (taking : Taking) (number : ℕ) (old new : DiskView) (line bytes : List ℕ) (call : TraceLine) (fault : RunFault) → IsNotDone taking old line bytes call fault new → LineStops (disk_lines taking) number old line fault new
refused taking number old new line bytes call (Disk f) n = (
  taken_legal taking old.drive.geometry.block line bytes call n.says n.taken,
  refuses_disk (is_flushed taking line) f old new line
      (record { flat = rw (n.says.some, n.says.said) n.flat; keeps = n.keeps; cause = n.cause; does = rw (n.says.some, n.says.said) n.does; durable = n.durable }),
)
refused taking number old new line bytes call (Mount f) n = (
  taken_legal taking old.drive.geometry.block line bytes call n.says n.taken,
  refuses_mount (is_flushed taking line) f old new line
      (record { flat = rw (n.says.some, n.says.said) n.flat; keeps = n.keeps; cause = n.cause; does = rw (n.says.some, n.says.said) n.does; durable = n.durable }),
)
refused taking number old new line bytes call Memory n = record { flat = n.flat; keeps = n.keeps; reads = n.does; durable = n.durable }
refused taking number old new line bytes call (Line m) n = absurd n.flat
refused taking number old new line bytes call (runs.Long m) n = absurd n.flat
refused taking number old new line bytes call (runs.Geometry f) n = absurd n.flat
refused taking number old new line bytes call runs.Input n = absurd n.flat
refused taking number old new line bytes call runs.Output n = absurd n.flat
