-- A run from a drive to a drive.
use Rattle.std.proofs.Common.{◌≡◌, ℕ, ◌+◌, true, false, List, [], ◌∷◌, length, Option, Some, None, Ok, Err, inl, inr, refl, sym, ap, subst, ◌∙◌}
use Rattle.std.specs.Prelude.{Bool, IfErr, Result}
use Rattle.zone_states.specs.declared.geometry.Geometry.{Geometry}
use Rattle.zone_states.specs.declared.geometry.GeometryFault.{GeometryFault}
use Rattle.drive_port.specs.Drive.{DriveState}
use Rattle.drive_array.specs.ZoneLogs.{encoded}
use Rattle.drive_array.specs.Reserve.{most_size}
use Rattle.drive_array.specs.Mountable.{IsMountable}
use Rattle.remount.specs.Kept.{KeepsMountable}
use Rattle.zone_translator.specs.Changes.{IsCause}
use Rattle.zone_translator.specs.Flat.{FlatDisk}
use Rattle.zone_translator.specs.Keeping.{KeepsServed}
use Rattle.zone_translator.specs.Mount.{MountsDisk}
use Rattle.zone_translator.specs.View.{DiskView, KeepsDisk, disk_size, flat_of, given_size, next_sequence}
use Rattle.zone_translator.specs.declared.fault.DiskFault.{DiskFault}
use Rattle.zone_translator.specs.declared.fault.DiskFault.TheVariants as faults
use Rattle.zone_translator.specs.declared.status.DiskStatus.{DiskStatus}
use Rattle.zone_translator.specs.declared.status.DiskStatus.TheVariants as statuses
use Rattle.disk_files.specs.declared.trace_line.TraceLine.{TraceLine}
use Rattle.disk_files.specs.declared.trace_line.TraceLine.TheVariants.{Read, Fill, Write, Trim, Idle, Grow, Remount}
use Rattle.disk_runs.specs.FlatLines.{AnswersRequest}
use Rattle.disk_runs.specs.Run.{AnswersAll, AtLine, Exchange, IsBeginning, IsLine, Known, Runs, StopsEarly, StopsAt}
use Rattle.disk_runs.specs.Taken.{AnswersWith, FlatRefusesWith, FlushesDisk, RefusesWith, disk_lines, flat_lines, is_flushed}
use Rattle.disk_runs.specs.Trace.{CallCause, Does, DoesSaid, EndCause, KeepsDrive, KeepsFault, MountsAgain, RunGives, RunKeeps, RunLeaves, RunsFlat, disk_at_first, disk_on, said_by, wanted_of}
use Rattle.disk_runs.specs.declared.fault.RunFault.{RunFault}
use Rattle.disk_runs.specs.declared.fault.RunFault.TheVariants as runs
use Rattle.disk_runs.specs.declared.fault.RunFault.TheVariants.{Line, Long, Disk, Mount, Input, Output, Memory}
use Rattle.disk_runs.specs.declared.taking.Taking.{Taking}
use Rattle.disk_runs.proofs.CallLaws.{cause_of}
use Rattle.disk_runs.proofs.FlushLaws.{flush_unchanged, flush_untold}

-- ---- a run, as a flat disk sees it

line_flat : (taking : Taking) (disk : DiskView) (line : List ℕ) → IsLine (disk_lines taking) disk line → IsLine (flat_lines taking) (flat_of disk) line
line_flat taking disk line p = record { short = p.short; legal = p.legal }

-- a line that is answered is answered by a flat disk, of which a flush changes nothing
answer_flat : (flushed : Bool) (old new : DiskView) (line reply : List ℕ) → AnswersWith flushed old line reply new → AnswersRequest (flat_of old) (wanted_of old line) reply (flat_of new)
answer_flat false old new line reply a = a.flat
answer_flat true old new line reply a =
    subst (λ (d : FlatDisk). AnswersRequest (flat_of old) (wanted_of old line) reply d) (sym (flush_unchanged a.middle new a.flushed)) a.answers.flat

-- and one that is refused is refused by it, or its flush is
refusal_flat : (flushed : Bool) (fault : RunFault) (old new : DiskView) (line : List ℕ) → RefusesWith flushed old line fault new → FlatRefusesWith flushed (flat_of old) line fault (flat_of new)
refusal_flat false fault old new line r = r.flat
refusal_flat true (Disk f) old new line (inl r) = inl r.flat
refusal_flat true (Disk f) old new line (inr u) =
    inr (record { reply = u.0; middle = flat_of u.1.middle; answers = u.1.answers.flat; refused = u.1.flushed.answers.flat })
refusal_flat true (Line m) old new line r = r.flat
refusal_flat true (Long m) old new line r = r.flat
refusal_flat true (Mount f) old new line r = r.flat
refusal_flat true (runs.Geometry f) old new line r = r.flat
refusal_flat true Input old new line r = r.flat
refusal_flat true Output old new line r = r.flat
refusal_flat true Memory old new line r = r.flat

all_flat : (taking : Taking) (lines : List (List ℕ)) (text : List ℕ) (old new : DiskView) → AnswersAll (disk_lines taking) old lines text new → AnswersAll (flat_lines taking) (flat_of old) lines text (flat_of new)
all_flat taking [] text old new p = (p.0, ap flat_of p.1)
all_flat taking (line ∷ lines) text old new p = record {
  reply = p.reply;
  after = p.after;
  middle = flat_of p.middle;
  is_line = line_flat taking old line p.is_line;
  answers = answer_flat (is_flushed taking line) old p.middle line p.reply p.answers;
  rest = all_flat taking lines p.after p.middle new p.rest;
  text_is = p.text_is;
}

at_flat : (taking : Taking) (left : Known) (old : DiskView) (P Q : List ℕ → Type 0) → ((line : List ℕ) → P line → Q line) → AtLine (disk_lines taking) left old P → AtLine (flat_lines taking) left (flat_of old) Q
at_flat taking left old P Q f p = record { line = p.line; next = p.next; is_line = line_flat taking old p.line p.is_line; does = f p.line p.does }

stops_flat : (taking : Taking) (fault : RunFault) (left : Known) (number : ℕ) (old : DiskView) (shown : List ℕ) (new : DiskView) → StopsAt (disk_lines taking) fault left number old shown new
    → StopsAt (flat_lines taking) fault left number (flat_of old) shown (flat_of new)
stops_flat taking (Line m) left number old shown new p =
    (p.0, record { line = p.1.line; next = p.1.next; short = p.1.short; wrong = p.1.wrong }, p.2, ap flat_of p.3)
stops_flat taking (Long m) left number old shown new p = (p.0, p.1, p.2, ap flat_of p.3)
stops_flat taking Input left number old shown new p = (p.0, ap flat_of p.1)
stops_flat taking Output left number old shown new p =
    at_flat taking left old (λ line. IsBeginning (disk_lines taking) old line shown new) (λ line. IsBeginning (flat_lines taking) (flat_of old) line shown (flat_of new))
    (λ line b. record { reply = b.reply; count = b.count; answers = answer_flat (is_flushed taking line) old new line b.reply b.answers; short = b.short; shown_is = b.shown_is }) p
stops_flat taking Memory left number old shown new p = (p.0, p.1.flat)
stops_flat taking (Disk f) left number old shown new p =
    (p.0, at_flat taking left old (λ line. (disk_lines taking).Refuses old line (Disk f) new) (λ line. (flat_lines taking).Refuses (flat_of old) line (Disk f) (flat_of new)) (λ line r. refusal_flat (is_flushed taking line) (Disk f) old new line r) p.1)
stops_flat taking (Mount f) left number old shown new p =
    (p.0, at_flat taking left old (λ line. (disk_lines taking).Refuses old line (Mount f) new) (λ line. (flat_lines taking).Refuses (flat_of old) line (Mount f) (flat_of new)) (λ line r. refusal_flat (is_flushed taking line) (Mount f) old new line r) p.1)
stops_flat taking (runs.Geometry f) left number old shown new p =
    (p.0, at_flat taking left old (λ line. (disk_lines taking).Refuses old line (runs.Geometry f) new) (λ line. (flat_lines taking).Refuses (flat_of old) line (runs.Geometry f) (flat_of new)) (λ line r. refusal_flat (is_flushed taking line) (runs.Geometry f) old new line r) p.1)

runs_flat : (taking : Taking) (bytes : Exchange) (old new : DiskView) (ended : Result (Unit {0}) RunFault) → Runs (disk_lines taking) bytes old ended new → Runs (flat_lines taking) bytes (flat_of old) ended (flat_of new)
runs_flat taking bytes old new (Ok done) r = record { lines = r.lines; text = r.text; read = r.read; answered = all_flat taking r.lines r.text old new r.answered; written = r.written }
runs_flat taking bytes old new (Err fault) r = record {
  lines = r.lines;
  left = r.left;
  text = r.text;
  shown = r.shown;
  middle = flat_of r.middle;
  read = r.read;
  answered = all_flat taking r.lines r.text old r.middle r.answered;
  written = r.written;
  stops = stops_flat taking fault r.left (length r.lines + 1) r.middle r.shown new r.stops;
}

-- ---- what lines keep of a disk

kept_again : (old new : DiskView) → MountsAgain old new → KeepsDrive old new
kept_again old new m = record {
  given = m.disk.given;
  geometry = m.kept.geometry;
  mountable = rw m.disk.given (m.kept.mountable m.disk.can.mountable);
  refused = m.kept.refused;
}

kept_served : (old new : DiskView) → KeepsDisk old new → KeepsDrive old new
kept_served old new k = record { given = k.given; geometry = k.geometry; mountable = k.mountable; refused = k.refused }

kept_on : (a b c : DiskView) → KeepsDrive a b → KeepsDrive b c → KeepsDrive a c
kept_on a b c p q = record {
  given = q.given ∙ p.given;
  geometry = q.geometry ∙ p.geometry;
  mountable = q.mountable;
  refused = q.refused ∙ p.refused;
}

kept_same : (a : DiskView) → IsMountable a.drive (given_size a) → KeepsDrive a a
kept_same a m = record { given = refl; geometry = refl; mountable = m; refused = refl }

-- what a line keeps of a drive that can be mounted: no answer leaves a disk unmounted that was not
pub record KeepsOn (old new : DiskView) : Type 0 where
  pub drive : KeepsDrive old new
  pub unmounted : new.status ≡ statuses.Unmounted → old.status ≡ statuses.Unmounted

on_served : (old new : DiskView) → IsMountable old.drive (given_size old) → KeepsServed old new → KeepsOn old new
on_served old new m k = let kept = k.mounted m in record { drive = kept_served old new kept; unmounted = kept.unmounted }

on_again : (old new : DiskView) → MountsAgain old new → KeepsOn old new
on_again old new k = record { drive = kept_again old new k; unmounted = λ e. let bad = sym k.disk.status ∙ e in absurd (cc) }

on_line : (line : TraceLine) (bytes : List ℕ) (old new : DiskView) → IsMountable old.drive (given_size old) → Does line bytes (Ok tt) old new → KeepsOn old new
on_line (Read first n) bytes old new m d = on_served old new m d.0
on_line (Fill first n byte) bytes old new m d = on_served old new m d.served
on_line (Write first) bytes old new m d = on_served old new m d.served
on_line (Trim first n) bytes old new m d = on_served old new m d.served
on_line (Idle n) bytes old new m d = on_served old new m d.0
on_line (Grow size) bytes old new m d = on_served old new m d.served
on_line Remount bytes old new m d = on_again old new d

on_said : (said : Option (TraceLine × List ℕ)) (old new : DiskView) → IsMountable old.drive (given_size old) → DoesSaid said old new → KeepsOn old new
on_said None old new m d = rw d (record { drive = kept_same old m; unmounted = λ e. e })
on_said (Some (line, bytes)) old new m d = on_line line bytes old new m d

on_more : (a b c : DiskView) → KeepsOn a b → KeepsOn b c → KeepsOn a c
on_more a b c p q = record { drive = kept_on a b c p.drive q.drive; unmounted = λ e. p.unmounted (q.unmounted e) }

on_flush : (old new : DiskView) (result : Result (Unit {0}) DiskFault) → FlushesDisk old result new → KeepsOn old new
on_flush old new result f = record { drive = kept_served old new f.answers.kept; unmounted = f.answers.kept.unmounted }

-- a line that is answered, and flushed where a flush follows it
pub on_answer : (flushed : Bool) (old new : DiskView) (line reply : List ℕ) → IsMountable old.drive (given_size old) → AnswersWith flushed old line reply new → KeepsOn old new
on_answer false old new line reply m a = on_said (said_by line) old new m a.does
on_answer true old new line reply m a = on_more old a.middle new (on_said (said_by line) old a.middle m a.answers.does) (on_flush a.middle new (Ok tt) a.flushed)

pub on_all : (taking : Taking) (lines : List (List ℕ)) (text : List ℕ) (old new : DiskView) → IsMountable old.drive (given_size old) → AnswersAll (disk_lines taking) old lines text new → KeepsOn old new
on_all taking [] text old new m p = rw p.1 (record { drive = kept_same old m; unmounted = λ e. e })
on_all taking (line ∷ lines) text old new m p =
    let one = on_answer (is_flushed taking line) old p.middle line p.reply m p.answers in
    on_more old p.middle new one (on_all taking lines p.after p.middle new one.drive.mountable p.rest)

-- a line that ends a run
kept_fault : (fault : RunFault) (old new : DiskView) → IsMountable old.drive (given_size old) → KeepsFault fault old new → KeepsDrive old new
kept_fault (Line m) old new can k = kept_served old new (k.mounted can)
kept_fault (Long m) old new can k = kept_served old new (k.mounted can)
kept_fault (Disk f) old new can k = kept_served old new (k.mounted can)
kept_fault (Mount f) old new can k = k can
kept_fault (runs.Geometry f) old new can k = kept_served old new (k.mounted can)
kept_fault Input old new can k = kept_served old new (k.mounted can)
kept_fault Output old new can k = kept_served old new (k.mounted can)
kept_fault Memory old new can k = kept_served old new (k.mounted can)

-- a line that is refused, or whose flush is
kept_refused : (flushed : Bool) (fault : RunFault) (old new : DiskView) (line : List ℕ) → IsMountable old.drive (given_size old) → RefusesWith flushed old line fault new → KeepsDrive old new
kept_refused false fault old new line can r = kept_fault fault old new can r.keeps
kept_refused true (Disk f) old new line can (inl r) = kept_fault (Disk f) old new can r.keeps
kept_refused true (Disk f) old new line can (inr u) =
    (on_more old u.1.middle new (on_said (said_by line) old u.1.middle can u.1.answers.does) (on_flush u.1.middle new (Err f) u.1.flushed)).drive
kept_refused true (Line m) old new line can r = kept_fault (Line m) old new can r.keeps
kept_refused true (Long m) old new line can r = kept_fault (Long m) old new can r.keeps
kept_refused true (Mount f) old new line can r = kept_fault (Mount f) old new can r.keeps
kept_refused true (runs.Geometry f) old new line can r = kept_fault (runs.Geometry f) old new can r.keeps
kept_refused true Input old new line can r = kept_fault Input old new can r.keeps
kept_refused true Output old new line can r = kept_fault Output old new can r.keeps
kept_refused true Memory old new line can r = kept_fault Memory old new can r.keeps

kept_stop : (taking : Taking) (fault : RunFault) (left : Known) (number : ℕ) (old : DiskView) (shown : List ℕ) (new : DiskView) → IsMountable old.drive (given_size old) → StopsAt (disk_lines taking) fault left number old shown new → KeepsDrive old new
kept_stop taking (Line m) left number old shown new can p = rw p.3 (kept_same old can)
kept_stop taking (Long m) left number old shown new can p = rw p.3 (kept_same old can)
kept_stop taking Input left number old shown new can p = rw p.1 (kept_same old can)
kept_stop taking Output left number old shown new can p = (on_answer (is_flushed taking p.line) old new p.line p.does.reply can p.does.answers).drive
kept_stop taking Memory left number old shown new can p = kept_served old new (p.1.keeps.mounted can)
kept_stop taking (Disk f) left number old shown new can p = kept_refused (is_flushed taking p.1.line) (Disk f) old new p.1.line can p.1.does
kept_stop taking (Mount f) left number old shown new can p = kept_refused (is_flushed taking p.1.line) (Mount f) old new p.1.line can p.1.does
kept_stop taking (runs.Geometry f) left number old shown new can p = kept_refused (is_flushed taking p.1.line) (runs.Geometry f) old new p.1.line can p.1.does

kept_run : (taking : Taking) (bytes : Exchange) (first last : DiskView) (ended : Result (Unit {0}) RunFault) → IsMountable first.drive (given_size first) → Runs (disk_lines taking) bytes first ended last → KeepsDrive first last
kept_run taking bytes first last (Ok done) can r = (on_all taking r.lines r.text first last can r.answered).drive
kept_run taking bytes first last (Err fault) can r =
    let before = (on_all taking r.lines r.text first r.middle can r.answered).drive in
    kept_on first r.middle last before (kept_stop taking fault r.left (length r.lines + 1) r.middle r.shown last before.mountable r.stops)

-- ---- why a run ended

-- a disk that is not unmounted refuses no call as one that is
call_cause : (fault : DiskFault) (old new : DiskView) → KeepsDisk old new → (old.status ≡ statuses.Unmounted → ⊥) → EndCause new (Disk fault) → IsCause new.drive (next_sequence new) fault
call_cause faults.OutOfRange old new kept serves cause = cause
call_cause faults.OutOfMemory old new kept serves cause = cause
call_cause faults.Failed old new kept serves cause = cause
call_cause faults.Stopped old new kept serves cause = cause
call_cause faults.Spent old new kept serves cause = cause
call_cause faults.Smaller old new kept serves cause = cause
call_cause faults.Reserve old new kept serves cause = cause
call_cause faults.Damaged old new kept serves cause = cause
call_cause faults.Unmounted old new kept serves cause = absurd (serves (kept.unmounted cause))

-- why a line was refused, or its flush
refusal_cause : (flushed : Bool) (fault : DiskFault) (old new : DiskView) (line : List ℕ) → IsMountable old.drive (given_size old) → (old.status ≡ statuses.Unmounted → ⊥) → RefusesWith flushed old line (Disk fault) new
    → IsCause new.drive (next_sequence new) fault
refusal_cause false fault old new line can serves r = call_cause fault old new (r.keeps.mounted can) serves r.cause
refusal_cause true fault old new line can serves (inl r) = call_cause fault old new (r.keeps.mounted can) serves r.cause
refusal_cause true fault old new line can serves (inr u) =
    let one = on_said (said_by line) old u.1.middle can u.1.answers.does in
    let untold = flush_untold (flat_of u.1.middle) (flat_of new) fault u.1.flushed.answers.flat in
    call_cause fault u.1.middle new u.1.flushed.answers.kept (λ e. serves (one.unmounted e)) (cause_of new fault untold u.1.flushed.answers.cause)

-- none is refused for a geometry
pub no_geometry : (flushed : Bool) (fault : GeometryFault) (old new : DiskView) (line : List ℕ) → RefusesWith flushed old line (runs.Geometry fault) new → ⊥
no_geometry false fault old new line r = r.cause
no_geometry true fault old new line r = r.cause

run_cause : (taking : Taking) (bytes : Exchange) (first last : DiskView) (fault : RunFault) → IsMountable first.drive (given_size first) → first.status ≡ statuses.Serving → StopsEarly (disk_lines taking) bytes first fault last → CallCause last fault
run_cause taking bytes first last (Line m) can serves r = tt
run_cause taking bytes first last (Long m) can serves r = tt
run_cause taking bytes first last Input can serves r = tt
run_cause taking bytes first last Output can serves r = tt
run_cause taking bytes first last Memory can serves r = tt
run_cause taking bytes first last (Mount f) can serves r = tt
run_cause taking bytes first last (runs.Geometry f) can serves r = tt
run_cause taking bytes first last (Disk f) can serves r =
    let before = on_all taking r.lines r.text first r.middle can r.answered in
    let line = r.stops.1.line in
    refusal_cause (is_flushed taking line) f r.middle last line before.drive.mountable (λ e. let bad = sym serves ∙ before.unmounted e in absurd (cc)) r.stops.1.does

-- ---- a run, from a drive to a drive

-- a disk of these parts
abbrev disk_of : List (List ℕ) → ℕ → DiskStatus → Geometry → FlatDisk
disk_of array size status geometry = record { array = array; size = size; status = status; block = geometry.block; most = most_size geometry }

disk-of : (array array' : List (List ℕ)) (size size' : ℕ) (status status' : DiskStatus) (geometry geometry' : Geometry) → array ≡ array' → size ≡ size' → status ≡ status' → geometry ≡ geometry'
    → disk_of array size status geometry ≡ disk_of array' size' status' geometry'
disk-of array array' size size' status status' geometry geometry' e f g h = rw (e, f, g, h) refl

-- the disk at first, by the drive that was mounted
at_first : (n : ℕ) (old : DriveState) (first : DiskView) → MountsDisk old n first → first.drive.geometry ≡ old.geometry → flat_of first ≡ disk_at_first n old
at_first n old first mounted same =
    disk-of (encoded first.drive (given_size first)) (encoded old n) (disk_size first) (length (encoded old n)) first.status statuses.Serving first.drive.geometry old.geometry
    mounted.array (mounted.size ∙ ap length mounted.array) mounted.status same

-- and the disk at last
at_last : (n : ℕ) (last : DiskView) → given_size last ≡ n → flat_of last ≡ disk_on n last.drive (disk_size last) last.status
at_last n last same = ap (λ (k : ℕ). disk_on k last.drive (disk_size last) last.status) same

-- what every run has
pub record Led (taking : Taking) (n : ℕ) (bytes : Exchange) (old : DriveState) (ended : Result (Unit {0}) RunFault) (new : DriveState) : Type 0 where
  pub flat : RunsFlat (flat_lines taking) n bytes old ended new
  pub keeps : RunKeeps (disk_lines taking) n bytes old ended new

cause_of_end : (taking : Taking) (bytes : Exchange) (first last : DiskView) (ended : Result (Unit {0}) RunFault) → IsMountable first.drive (given_size first) → first.status ≡ statuses.Serving → Runs (disk_lines taking) bytes first ended last → IfErr ended (CallCause last)
cause_of_end taking bytes first last (Ok done) can serves r = tt
cause_of_end taking bytes first last (Err fault) can serves r = run_cause taking bytes first last fault can serves r

-- a run was mounted, and led on
pub led : (taking : Taking) (n : ℕ) (bytes : Exchange) (old : DriveState) (first last : DiskView) (ended : Result (Unit {0}) RunFault) → MountsDisk old n first → KeepsMountable n old first.drive → IsMountable first.drive (given_size first)
    → Runs (disk_lines taking) bytes first ended last → Led taking n bytes old ended last.drive
led taking n bytes old first last ended mounted kept can r =
    let keeps = kept_run taking bytes first last ended can r in
    let begins = at_first n old first mounted kept.geometry in
    let given : given_size last ≡ n = keeps.given ∙ mounted.given in
    record {
      flat = (
        disk_size last,
        last.status,
        subst (λ (d : FlatDisk). Runs (flat_lines taking) bytes (disk_at_first n old) ended d) (at_last n last given)
            (subst (λ (d : FlatDisk). Runs (flat_lines taking) bytes d ended (flat_of last)) begins (runs_flat taking bytes first last ended r)),
      );
      keeps = record {
        can = mounted.can;
        geometry = keeps.geometry ∙ kept.geometry;
        mountable = rw (← given) keeps.mountable;
        refused = keeps.refused ∙ kept.refused;
        first = first;
        mounted = mounted;
        kept = kept;
        last = last;
        runs = r;
        cause = cause_of_end taking bytes first last ended can mounted.status r;
        drive = refl;
      };
    }

-- what such a run gives
pub led_gives : (taking : Taking) (n : ℕ) (bytes : Exchange) (old : DriveState) (ended : Result (Unit {0}) RunFault) (new : DriveState) → Led taking n bytes old ended new → RunGives (flat_lines taking) n bytes old ended new
led_gives taking n bytes old (Ok done) new l = l.flat
led_gives taking n bytes old (Err (Line m)) new l = l.flat
led_gives taking n bytes old (Err (Long m)) new l = l.flat
led_gives taking n bytes old (Err (Disk f)) new l = l.flat
led_gives taking n bytes old (Err (Mount f)) new l = inr l.flat
led_gives taking n bytes old (Err (runs.Geometry f)) new l = l.flat
led_gives taking n bytes old (Err Input) new l = l.flat
led_gives taking n bytes old (Err Output) new l = l.flat
led_gives taking n bytes old (Err Memory) new l = l.flat

-- and what it leaves
pub led_leaves : (taking : Taking) (n : ℕ) (bytes : Exchange) (old : DriveState) (ended : Result (Unit {0}) RunFault) (new : DriveState) → Led taking n bytes old ended new → RunLeaves (disk_lines taking) n bytes old ended new
led_leaves taking n bytes old (Ok done) new l = l.keeps
led_leaves taking n bytes old (Err (Line m)) new l = l.keeps
led_leaves taking n bytes old (Err (Long m)) new l = l.keeps
led_leaves taking n bytes old (Err (Disk f)) new l = l.keeps
led_leaves taking n bytes old (Err (Mount f)) new l = inr l.keeps
led_leaves taking n bytes old (Err (runs.Geometry f)) new l = let s = l.keeps.runs in absurd (no_geometry (is_flushed taking s.stops.1.line) f s.middle l.keeps.last s.stops.1.line s.stops.1.does)
led_leaves taking n bytes old (Err Input) new l = l.keeps
led_leaves taking n bytes old (Err Output) new l = l.keeps
led_leaves taking n bytes old (Err Memory) new l = l.keeps
