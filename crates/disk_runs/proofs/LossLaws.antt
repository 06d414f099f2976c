-- What a loss of power leaves of a disk in a synced run.
use Rattle.std.proofs.Common.{◌≡◌, ◌⊎◌, ◌∙◌, ℕ, ◌+◌, true, false, List, [], ◌∷◌, length, map, Ok, Err, inl, inr, refl, sym}
use Rattle.std.specs.Prelude.{Bool, Contains, Result, not}
use Rattle.zone_states.specs.Zone.{Zone}
use Rattle.drive_port.specs.Run.{restarted_zone}
use Rattle.drive_array.specs.Mountable.{IsMountable}
use Rattle.zone_translator.specs.Laws.{CanMountAgain}
use Rattle.zone_translator.specs.View.{DiskView, disk_array, flat_of, given_size}
use Rattle.zone_translator.specs.declared.fault.DiskFault.{DiskFault}
use Rattle.zone_translator.proofs.AgainLaws.{called-can, left-is-found}
use Rattle.drive_survey.specs.declared.fault.MountFault.{MountFault}
use Rattle.disk_runs.specs.Laws.{AnsweredIsDurable, DriveIsDurable, LeavesDone, LeavesFlushed, LossAfterLines, NoneFlushed, RunIsDurable}
use Rattle.disk_runs.specs.Run.{AnswersAll, IsNextLine, Known, StopsAt}
use Rattle.disk_runs.specs.Taken.{AnswersWith, FlushesDisk, RefusesWith, is_flushed, only_looks, synced}
use Rattle.disk_runs.specs.Trace.{AnswersLine, KeepsDrive}
use Rattle.disk_runs.specs.declared.fault.RunFault.{RunFault}
use Rattle.disk_runs.specs.declared.fault.RunFault.TheVariants as runs
use Rattle.disk_runs.specs.declared.fault.RunFault.TheVariants.{Line, Long, Disk, Mount, Input, Output, Memory}
use Rattle.disk_runs.specs.declared.taking.Taking.TheVariants.{Synced}
use Rattle.disk_runs.proofs.FlushLaws.{flush_array}
use Rattle.disk_runs.proofs.ReadLaws.{answered_same}
use Rattle.disk_runs.proofs.TraceLaws.{no_geometry, on_all, on_answer}

-- ---- a disk

-- a drive that can still be mounted
still_can : (old new : DiskView) → CanMountAgain old → KeepsDrive old new → CanMountAgain new
still_can old new can kept = record { geometry = rw kept.geometry can.geometry; reserve = rw (kept.geometry, kept.given) can.reserve; mountable = kept.mountable }

-- the same array, on a drive of the same shape
record IsAlike (old new : DiskView) : Type 0 where
  geometry : new.drive.geometry ≡ old.drive.geometry
  given : given_size new ≡ given_size old
  array : disk_array new ≡ disk_array old

alike_join : (a b c : DiskView) → IsAlike a b → IsAlike b c → IsAlike a c
alike_join a b c p q = record { geometry = q.geometry ∙ p.geometry; given = q.given ∙ p.given; array = q.array ∙ p.array }

flush_alike : (old new : DiskView) (result : Result (Unit {0}) DiskFault) → FlushesDisk old result new → IsAlike old new
flush_alike old new result f = record { geometry = f.answers.kept.geometry; given = f.answers.kept.given; array = flush_array old new result f }

-- ---- what is left of it

-- the zones as they are
leaves_now : (disk : DiskView) (zones : List Zone) → CanMountAgain disk → zones ≡ map restarted_zone disk.drive.zones → LeavesFlushed disk zones
leaves_now disk zones can is = record { flushed = disk; leaves = record { zones_are = is; found = left-is-found disk can }; geometry = refl; given = refl; array = refl }

-- they are also those of a disk that is alike
leaves_after : (old new : DiskView) (zones : List Zone) → IsAlike old new → LeavesFlushed old zones → LeavesFlushed new zones
leaves_after old new zones alike l =
    record { flushed = l.flushed; leaves = l.leaves; geometry = l.geometry ∙ sym alike.geometry; given = l.given ∙ sym alike.given; array = l.array ∙ sym alike.array }

leaves_before : (old new : DiskView) (zones : List Zone) → IsAlike old new → LeavesFlushed new zones → LeavesFlushed old zones
leaves_before old new zones alike l =
    record { flushed = l.flushed; leaves = l.leaves; geometry = l.geometry ∙ alike.geometry; given = l.given ∙ alike.given; array = l.array ∙ alike.array }

-- ---- lines that were answered

not_flushed : (looks : Bool) → not looks ≡ false → looks ≡ true
not_flushed true e = refl
not_flushed false e = absurd (cc)

unflushed : (flushed : Bool) (old new : DiskView) (line reply : List ℕ) → flushed ≡ false → AnswersWith flushed old line reply new → AnswersLine old line reply new
unflushed false old new line reply e a = a
unflushed true old new line reply e a = absurd (cc)

-- one that is not flushed leaves the array
line_alike : (old new : DiskView) (line reply : List ℕ) → KeepsDrive old new → is_flushed Synced line ≡ false → AnswersLine old line reply new → IsAlike old new
line_alike old new line reply kept none a =
    record { geometry = kept.geometry; given = kept.given; array = answered_same (flat_of old) (flat_of new) line reply (not_flushed (only_looks line) none) a.flat }

lines_alike : (old new : DiskView) (lines : List (List ℕ)) (text : List ℕ) → IsMountable old.drive (given_size old) → NoneFlushed lines → AnswersAll synced old lines text new → IsAlike old new
lines_alike old new [] text can none all = rw all.1 (record { geometry = refl; given = refl; array = refl })
lines_alike old new (line ∷ lines) text can none all =
    let one = (on_answer (is_flushed Synced line) old all.middle line all.reply can all.answers).drive in
    alike_join old all.middle new
    (line_alike old all.middle line all.reply one none.0 (unflushed (is_flushed Synced line) old all.middle line all.reply none.0 all.answers))
    (lines_alike all.middle new lines all.after one.mountable none.1 all.rest)

-- the first line, and those after it
first_line : (flushed : Bool) (old middle new : DiskView) (line reply : List ℕ) (lines : List (List ℕ)) (text : List ℕ) (zones : List Zone) → is_flushed Synced line ≡ flushed → CanMountAgain middle
    → AnswersWith flushed old line reply middle → AnswersAll synced middle lines text new → LossAfterLines middle lines new zones → LossAfterLines old (line ∷ lines) new zones
first_line flushed old middle new line reply lines text zones is can a all (inl found) = inl found
first_line false old middle new line reply lines text zones is can a all (inr none) = inr ((is, none.0), rw a.durable at none.1)
first_line true old middle new line reply lines text zones is can a all (inr none) =
    inl (leaves_after middle new zones (lines_alike middle new lines text can.mountable none.0 all) (leaves_now middle zones can (a.flushed.answers.durable zones none.1)))

pub answered_is_durable : AnsweredIsDurable
answered_is_durable first last [] text can all zones left = inr (tt, rw all.1 at left)
answered_is_durable first last (line ∷ lines) text can all zones left =
    let one = on_answer (is_flushed Synced line) first all.middle line all.reply can.mountable all.answers in
    let next = still_can first all.middle can one.drive in
    first_line (is_flushed Synced line) first all.middle last line all.reply lines all.after zones refl next all.answers all.rest
    (answered_is_durable all.middle last lines all.after next all.rest zones left)

-- ---- the line that ended the run

-- it left what is durable, or it was done
abbrev LossAtEnd : Known → DiskView → DiskView → List Zone → Type 0
LossAtEnd left old new zones = Contains old.drive.durable zones ⊎ LeavesDone left old zones

-- its reply was begun
at_answer : (flushed : Bool) (left : Known) (old new : DiskView) (line reply : List ℕ) (zones : List Zone) → IsNextLine left line → CanMountAgain old → AnswersWith flushed old line reply new
    → Contains new.drive.durable zones → LossAtEnd left old new zones
at_answer false left old new line reply zones next can a is = inl (rw a.durable at is)
at_answer true left old new line reply zones next can a is =
    let after = still_can old new can (on_answer true old new line reply can.mountable a).drive in
    inr (record {
      line = line;
      next = next;
      reply = reply;
      done = a.middle;
      answers = a.answers;
      leaves = leaves_before a.middle new zones (flush_alike a.middle new (Ok tt) a.flushed) (leaves_now new zones after (a.flushed.answers.durable zones is));
    })

-- it was refused, or its flush was
at_refusal : (flushed : Bool) (fault : DiskFault) (left : Known) (old new : DiskView) (line : List ℕ) (zones : List Zone) → IsNextLine left line → CanMountAgain old → RefusesWith flushed old line (Disk fault) new
    → Contains new.drive.durable zones → LossAtEnd left old new zones
at_refusal false fault left old new line zones next can r is = inl (rw r.durable at is)
at_refusal true fault left old new line zones next can (inl r) is = inl (rw r.durable at is)
at_refusal true fault left old new line zones next can (inr u) is = by (u.1.flushed.answers.durable zones is)
  where
    by : Contains u.1.middle.drive.durable zones ⊎ (zones ≡ map restarted_zone new.drive.zones) → LossAtEnd left old new zones
    by (inl before) = inl (rw u.1.answers.durable at before)
    by (inr now) =
        let one = still_can old u.1.middle can (on_answer false old u.1.middle line u.0 can.mountable u.1.answers).drive in
        inr (record {
          line = line;
          next = next;
          reply = u.0;
          done = u.1.middle;
          answers = u.1.answers;
          leaves = leaves_before u.1.middle new zones (flush_alike u.1.middle new (Err fault) u.1.flushed) (leaves_now new zones (called-can u.1.middle new one u.1.flushed.answers.kept) now);
        })

at_mount : (flushed : Bool) (fault : MountFault) (old new : DiskView) (line : List ℕ) → RefusesWith flushed old line (Mount fault) new → new.drive.durable ≡ old.drive.durable
at_mount false fault old new line r = r.durable
at_mount true fault old new line r = r.durable

at_end : (fault : RunFault) (left : Known) (number : ℕ) (old : DiskView) (shown : List ℕ) (new : DiskView) (zones : List Zone) → CanMountAgain old → StopsAt synced fault left number old shown new
    → Contains new.drive.durable zones → LossAtEnd left old new zones
at_end (Line m) left number old shown new zones can s is = inl (rw s.3 at is)
at_end (Long m) left number old shown new zones can s is = inl (rw s.3 at is)
at_end Input left number old shown new zones can s is = inl (rw s.1 at is)
at_end Memory left number old shown new zones can s is = inl (rw s.1.durable at is)
at_end Output left number old shown new zones can s is = at_answer (is_flushed Synced s.line) left old new s.line s.does.reply zones s.next can s.does.answers is
at_end (Disk fault) left number old shown new zones can s is = at_refusal (is_flushed Synced s.1.line) fault left old new s.1.line zones s.1.next can s.1.does is
at_end (Mount fault) left number old shown new zones can s is = inl (rw (at_mount (is_flushed Synced s.1.line) fault old new s.1.line s.1.does) at is)
at_end (runs.Geometry fault) left number old shown new zones can s is = absurd (no_geometry (is_flushed Synced s.1.line) fault old new s.1.line s.1.does)

-- ---- a run

pub run_is_durable : RunIsDurable
run_is_durable bytes first (Ok done) last can ran zones left = answered_is_durable first last ran.lines ran.text can ran.answered zones left
run_is_durable bytes first (Err fault) last can ran zones left =
    let before = still_can first ran.middle can (on_all Synced ran.lines ran.text first ran.middle can.mountable ran.answered).drive in
    elim (at_end fault ran.left (length ran.lines + 1) ran.middle ran.shown last zones before ran.stops left) [
      | inl same ↦ inl (answered_is_durable first ran.middle ran.lines ran.text can ran.answered zones same)
      | inr done ↦ inr done
    ]

pub drive_is_durable : DriveIsDurable
drive_is_durable n bytes old ended new keeps zones left =
    let can : CanMountAgain keeps.first = record {
      geometry = rw keeps.kept.geometry keeps.can.geometry;
      reserve = rw (keeps.kept.geometry, keeps.mounted.given) keeps.can.reserve;
      mountable = rw keeps.mounted.given (keeps.kept.mountable keeps.can.mountable);
    } in
    run_is_durable bytes keeps.first ended keeps.last can keeps.runs zones (rw keeps.drive at left)
