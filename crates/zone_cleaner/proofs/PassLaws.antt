-- A turn of a clean that runs, or of one that is started.
use Rattle.std.proofs.Common.{◌≡◌, ◌≢◌, ℕ, ◌+◌, ◌-◌, ◌<◌, ◌≤◌, Bool, true, false, List, [], ◌∷◌, Option, Some, None, Result, Ok, Err, is_some, refl, sym, ap, subst, ◌∙◌, inl, inr, arith}
use Rattle.std.specs.List.{list_any}
use Rattle.std.specs.Prelude.{IsFalse, IsTrue}
use Rattle.drive_port.specs.Drive.{DriveState}
use Rattle.drive_array.specs.Reserve.{batch_most}
use Rattle.zone_choice.specs.Agreement.{Agrees, MountedView, mounted}
use Rattle.zone_choice.specs.declared.unreadable.Unreadable.{Unreadable}
use Rattle.zone_choice.specs.Roles.{next_of}
use Rattle.zone_choice.specs.Tables.{TablesView, is_left_out, is_lost_in}
use Rattle.zone_cleaner.specs.declared.fault.CleanFault.{CleanFault}
use Rattle.zone_cleaner.specs.declared.fault.CleanFault.TheVariants as faults
use Rattle.zone_cleaner.specs.declared.step.Step.{Step}
use Rattle.zone_cleaner.specs.declared.step.Step.TheVariants.{Gather, Move, Reset, Undo}
use Rattle.zone_cleaner.specs.Answering.{PassAnswers, PassDone, Readies, TurnAnswers}
use Rattle.zone_cleaner.specs.Clean.{CleanView, Cleans, IsClean, turns_due, turns_left}
use Rattle.zone_cleaner.specs.Start.{AgreesWithClean, CleanLeaves, CleaningLeaves, KeepsByCleaning, LacksZones, SameButLost, StartLeaves, TurnLeaves, is_given_up, unfinished, why_unfinished}
use Rattle.zone_cleaner.specs.Turns.{StepDone, next_step}
use Rattle.zone_cleaner.proofs.NeedLaws.{begins}
use Rattle.zone_cleaner.proofs.RunLaws.{done-takes, leaves-done, leaves-failed, leaves-refused, takes-join, takes-none, takes-one}
use Rattle.zone_cleaner.proofs.TurnLaws.{keeps-more, keeps-none, turn_gives}

-- ---- what is noted as unreadable

step-lost : (before after : MountedView) (c : CleanView) (new : Option CleanView) (step : Step) → StepDone step before c after new → after.tables.unreadable ≡ before.tables.unreadable
step-lost before after c new (Gather block place) done = rw done.1 refl
step-lost before after c new Move done = done.0.places.unreadable
step-lost before after c new Reset done = done.0.unreadable
step-lost before after c new Undo done = done.0.unreadable

-- a turn that is done notes nothing
pub turn-lost : (before after : MountedView) (old new : Option CleanView) → TurnLeaves before old (Ok tt) after new → after.tables.unreadable ≡ before.tables.unreadable
turn-lost before after (Some c) new leaves = step-lost before after c new (next_step (batch_most before.drive.geometry) before.tables c) leaves
turn-lost before after None None leaves = rw leaves.1.1 refl
turn-lost before after None (Some c) leaves = rw leaves.1.tables refl

-- a clean is given up only where something was noted
pub given-up : (tables : TablesView) (clean : Option CleanView) → tables.unreadable ≡ [] → is_given_up tables clean ≡ true → ⊥
given-up tables None all is = absurd (cc)
given-up tables (Some c) all is =
    let none : is_left_out tables c.victim ≡ false = ap (λ (lost : List Unreadable). list_any (is_lost_in tables.map c.victim) lost) all in
    absurd (cc)

-- then a command failed
pub noted-failed : (disk : MountedView) → Agrees disk → disk.tables.unreadable ≢ [] → IsFalse disk.drive.unfailing
noted-failed disk agrees some = by disk.drive.unfailing refl
  where
    by : (b : Bool) → disk.drive.unfailing ≡ b → b ≡ false
    by false e = refl
    by true e = absurd (some (agrees.readable e))

-- ---- a start

pub ready-running : (first : MountedView) (old : Option CleanView) → is_some old ≡ true → AgreesWithClean first old → Readies first old first old
ready-running first None runs is = absurd (cc)
ready-running first (Some c) runs is = record {
  leaves = leaves-done first first (Some c) (Some c) (takes-none first (Some c));
  agrees = is;
  keeps = keeps-none first (Some c) is;
  lost = refl;
  turns = λ all some. omega arith;
  runs = λ all. refl;
}

pub ready-started : (first disk : MountedView) (old clean : Option CleanView) → is_some old ≡ false → AgreesWithClean first old → (first.tables.unreadable ≡ [] → LacksZones first.tables.roles) → TurnLeaves first None (Ok tt) disk clean → Readies first old disk clean
ready-started first disk (Some c) clean idle is lacks turn = absurd (cc)
ready-started first disk None clean idle is lacks turn =
    let gives = turn_gives first disk None clean (Ok tt) is turn in
    record {
      leaves = leaves-done first disk None clean (takes-one first disk None clean (Ok tt) tt turn);
      agrees = gives.goes_on;
      keeps = gives.keeps;
      lost = turn-lost first disk None clean turn;
      turns = λ all some. omega (arith, (begins first disk None clean refl is all (lacks all) turn).turns);
      runs = λ all. (begins first disk None clean refl is all (lacks all) turn).runs;
    }

-- ---- none was due

pub none-pass : (first disk after : MountedView) (old clean : Option CleanView) (fault : CleanFault) → Readies first old disk clean → is_some clean ≡ false → fault ≡ unfinished disk.tables → after.drive ≡ disk.drive → after.tables ≡ record disk.tables { unreadable = [] }
    → PassAnswers first old (Err fault) after clean
none-pass first disk after old clean fault ready idle fault-is drive tables = by disk.tables.unreadable refl
  where
    empty : after ≡ mounted disk.drive (record disk.tables { unreadable = [] })
    empty = rw (← drive, ← tables) refl

    agrees-lost : (d : MountedView) → Agrees d → Agrees (mounted d.drive (record d.tables { unreadable = [] }))
    agrees-lost d a = record { geometry = a.geometry; reserve = a.reserve; lawful = a.lawful; logs = a.logs; sound = a.sound; next = a.next; zones = a.zones; zone_size = a.zone_size; places = a.places; roles = a.roles; few = a.few; open_zones = a.open_zones; readable = λ up. refl }

    without-lost : (d : MountedView) (x : Option CleanView) → AgreesWithClean d x → AgreesWithClean (mounted d.drive (record d.tables { unreadable = [] })) x
    without-lost d None is = (agrees-lost d is.0, is.1)
    without-lost d (Some c) is = (agrees-lost d is.0, record { destination = is.1.destination; second = is.1.second; victim = is.1.victim; gathers = record { within = is.1.gathers.within; few = is.1.gathers.few; gathered = is.1.gathers.gathered }; room = is.1.room; moves = is.1.moves; undo = record { all = is.1.undo.all; each = is.1.undo.each; away = is.1.undo.away } })

    same-keeps : (d : MountedView) (x : Option CleanView) → AgreesWithClean d x → KeepsByCleaning d (mounted d.drive (record d.tables { unreadable = [] }))
    same-keeps d x is = let kept = keeps-none d x is in record { mountable = kept.mountable; array = kept.array; moves = kept.moves; size = refl; trimmed = refl; given = refl; geometry = refl; refused = refl; durable = refl; next = refl; appended = omega arith; unfailing = λ up. up }

    by : (lost : List Unreadable) → disk.tables.unreadable ≡ lost → PassAnswers first old (Err fault) after clean
    by [] all = absurd (let runs = ready.runs (sym ready.lost ∙ all) in cc)
    by (x ∷ xs) some =
        let failed : fault ≡ faults.Failed = fault-is ∙ ap why_unfinished some in
        let down = noted-failed disk ready.agrees.0 (λ none. (let bad : [] ≡ x ∷ xs = sym none ∙ some in absurd (cc))) in
        let cleaned : AgreesWithClean after clean = rw empty (without-lost disk clean ready.agrees) in
        rw failed (record {
          leaves = leaves-failed first disk after old clean clean (done-takes first disk old clean ready.leaves) (record { drive = drive; tables = rw tables refl }) refl;
          cleaning = record { goes_on = cleaned; keeps = keeps-more first disk after ready.keeps (rw empty (same-keeps disk clean ready.agrees)); cause = rw drive down };
          done = tt;
        })

-- ---- a turn

-- one that is done
pub done-pass : (first disk after : MountedView) (old clean new : Option CleanView) → is_some clean ≡ true → Readies first old disk clean → TurnAnswers disk clean (Ok tt) after new → PassAnswers first old (Ok tt) after new
done-pass first disk after old clean new runs ready turn =
    let lost = turn-lost disk after clean new turn.leaves in
    record {
      leaves = leaves-done first after old new (takes-join first disk after old clean new (done-takes first disk old clean ready.leaves) (inr (inl runs)) (takes-one disk after clean new (Ok tt) tt turn.leaves));
      cleaning = record { goes_on = turn.cleaning.goes_on; keeps = keeps-more first disk after ready.keeps turn.cleaning.keeps; cause = tt };
      done = record {
        lost = λ all. sym ready.lost ∙ sym lost ∙ all;
        turns = λ all some.
            let before = ready.turns (sym ready.lost ∙ sym lost ∙ all) runs in
            let fewer = rw ready.keeps.geometry at (turn.done.turns.fewer runs) in
            omega (arith, before, fewer);
        next = λ all none. turn.done.room.next (sym lost ∙ all) runs none;
      };
    }

-- one that failed at data which was noted
pub failed-pass : (first disk after : MountedView) (old clean new : Option CleanView) → is_some clean ≡ true → Readies first old disk clean → TurnAnswers disk clean (Err faults.Failed) after new → is_given_up after.tables new ≡ true → PassAnswers first old (Ok tt) after new
failed-pass first disk after old clean new runs ready turn up = record {
  leaves = leaves-done first after old new (takes-join first disk after old clean new (done-takes first disk old clean ready.leaves) (inr (inl runs)) (takes-one disk after clean new (Err faults.Failed) tt turn.leaves));
  cleaning = record { goes_on = turn.cleaning.goes_on; keeps = keeps-more first disk after ready.keeps turn.cleaning.keeps; cause = tt };
  done = record {
    lost = λ all. absurd (given-up after.tables new all up);
    turns = λ all some. absurd (given-up after.tables new all up);
    next = λ all none. absurd (given-up after.tables new all up);
  };
}

-- one that was refused
pub refused-pass : (first disk after : MountedView) (old clean new : Option CleanView) (fault : CleanFault) → Readies first old disk clean → TurnAnswers disk clean (Err fault) after new → PassAnswers first old (Err fault) after new
refused-pass first disk after old clean new fault ready turn = record {
  leaves = leaves-refused first disk after old clean new fault (done-takes first disk old clean ready.leaves) turn.leaves;
  cleaning = record { goes_on = turn.cleaning.goes_on; keeps = keeps-more first disk after ready.keeps turn.cleaning.keeps; cause = turn.cleaning.cause };
  done = tt;
}

-- by its answer
pub turn-pass : (first disk after : MountedView) (old clean new : Option CleanView) (result : Result (Unit {0}) CleanFault) → is_some clean ≡ true → Readies first old disk clean → TurnAnswers disk clean result after new → PassAnswers first old result after new
turn-pass first disk after old clean new (Ok done) runs ready turn = done-pass first disk after old clean new runs ready turn
turn-pass first disk after old clean new (Err fault) runs ready turn = refused-pass first disk after old clean new fault ready turn
