-- Turns that are taken until the host can take a zone, while the drive is clean.
use Rattle.std.proofs.Common.{◌≡◌, ◌≢◌, ◌⊎◌, ℕ, ◌+◌, ◌-◌, ◌≤◌, true, false, List, [], ◌∷◌, Option, Some, None, Ok, Err, is_some, refl, sym, ap, subst, ◌∙◌, inl, inr, arith}
use Rattle.zone_states.specs.declared.geometry.Geometry.{Geometry}
use Rattle.drive_array.specs.Reserve.{batch_most}
use Rattle.zone_choice.specs.Agreement.{MountedView}
use Rattle.zone_choice.specs.Roles.{next_of}
use Rattle.zone_choice.specs.declared.unreadable.Unreadable.{Unreadable}
use Rattle.zone_cleaner.specs.declared.fault.CleanFault.{CleanFault}
use Rattle.zone_cleaner.specs.declared.fault.CleanFault.TheVariants as faults
use Rattle.zone_cleaner.specs.Answering.{CleanAnswers, PassAnswers, RoundAnswers}
use Rattle.zone_cleaner.specs.Clean.{CleanView, turns_due, turns_left}
use Rattle.zone_cleaner.specs.Start.{AgreesWithClean, CanTake, HasZone, IsOn, KeepsByCleaning, LacksZones, unfinished, why_unfinished}
use Rattle.zone_cleaner.proofs.NeedLaws.{left-few}
use Rattle.zone_cleaner.proofs.PassLaws.{noted-failed}
use Rattle.zone_cleaner.proofs.RunLaws.{TakesTurns, done-takes, leaves-after, leaves-done, leaves-failed, takes-join, takes-none}
use Rattle.zone_cleaner.proofs.TurnLaws.{keeps-more, keeps-none}

-- So many turns of a round were taken, and the host can take no zone yet.
pub record HasRun (first : MountedView) (old : Option CleanView) (n : ℕ) (disk : MountedView) (clean : Option CleanView) : Type 0 where
  pub agrees : AgreesWithClean disk clean
  pub keeps : KeepsByCleaning first disk
  pub takes : TakesTurns first old disk clean
  pub on : (takes.turns ≡ 0) ⊎ IsOn disk clean
  pub turns : disk.tables.unreadable ≡ [] → is_some clean ≡ true → turns_left (batch_most first.drive.geometry) disk.tables clean + n + 1 ≤ first.drive.geometry.capacity
  pub idle : disk.tables.unreadable ≡ [] → clean ≡ None → (n ≡ 0) × LacksZones disk.tables.roles

-- none was yet
pub run-none : (disk : MountedView) (clean : Option CleanView) → AgreesWithClean disk clean → (disk.tables.unreadable ≡ [] → LacksZones disk.tables.roles) → HasRun disk clean 0 disk clean
run-none disk clean is lacks = record {
  agrees = is;
  keeps = keeps-none disk clean is;
  takes = record { turns = 0; done = (refl, refl) };
  on = inl refl;
  turns = λ all some. omega (arith, left-few disk clean is);
  idle = λ all none. (refl, lacks all);
}

due-few : (disk : MountedView) (clean : Option CleanView) (capacity n : ℕ) → 4 ≤ capacity → disk.drive.geometry.capacity ≡ capacity → (is_some clean ≡ true → turns_left (batch_most disk.drive.geometry) disk.tables clean + n + 1 ≤ capacity) → (clean ≡ None → n ≡ 0) → turns_due disk clean + n + 1 ≤ capacity
due-few disk None capacity n some same running idle = omega (arith, some, same, idle refl)
due-few disk (Some c) capacity n some same running idle = omega (arith, running refl)

-- a clean runs, or a command failed
is-on : (disk : MountedView) (clean : Option CleanView) → AgreesWithClean disk clean → (disk.tables.unreadable ≡ [] → clean ≡ None → ⊥) → IsOn disk clean
is-on disk (Some c) is never = inl refl
is-on disk None is never = inr (noted-failed disk is.0 (λ all. never all refl))

-- and one more
pub run-more : (first before after : MountedView) (old clean new : Option CleanView) (n : ℕ) → 4 ≤ first.drive.geometry.capacity → HasRun first old n before clean → PassAnswers before clean (Ok tt) after new → (new ≡ None → CanTake after.tables.roles → ⊥)
    → HasRun first old (n + 1) after new
run-more first before after old clean new n big so_far pass none = record {
  agrees = pass.cleaning.goes_on;
  keeps = keeps-more first before after so_far.keeps pass.cleaning.keeps;
  takes = takes-join first before after old clean new so_far.takes so_far.on (done-takes before after clean new pass.leaves);
  on = inr (is-on after new pass.cleaning.goes_on (λ all ended. none ended (inl (pass.done.next all ended))));
  turns = λ all some.
      let was = pass.done.lost all in
      let fewer = subst (λ (g : Geometry). turns_left (batch_most g) after.tables new + 1 ≤ turns_due before clean) so_far.keeps.geometry (pass.done.turns all some) in
      let turns = subst (λ (g : Geometry). is_some clean ≡ true → turns_left (batch_most g) before.tables clean + n + 1 ≤ first.drive.geometry.capacity) (sym so_far.keeps.geometry) (so_far.turns was) in
      let due = due-few before clean first.drive.geometry.capacity n big (ap (λ (g : Geometry). g.capacity) so_far.keeps.geometry) turns (λ idle. (so_far.idle was idle).0) in
      omega (arith, fewer, due);
  idle = λ all ended. absurd (none ended (inl (pass.done.next all ended)));
}

-- the host can take a zone now
pub run-found : (first before after : MountedView) (old clean new : Option CleanView) (n : ℕ) → HasRun first old n before clean → PassAnswers before clean (Ok tt) after new → after.tables.roles.host ≡ None → (new ≡ None) × CanTake after.tables.roles
    → RoundAnswers first old (Ok tt) after new
run-found first before after old clean new n so_far pass host finds = record {
  leaves = leaves-done first after old new (takes-join first before after old clean new so_far.takes so_far.on (done-takes before after clean new pass.leaves));
  cleaning = record { goes_on = pass.cleaning.goes_on; keeps = keeps-more first before after so_far.keeps pass.cleaning.keeps; cause = tt };
  done = inl (record { ended = finds.0; host = host; zone = finds.1 });
}

-- a turn was refused
pub run-refused : (first before after : MountedView) (old clean new : Option CleanView) (n : ℕ) (fault : CleanFault) → HasRun first old n before clean → PassAnswers before clean (Err fault) after new → RoundAnswers first old (Err fault) after new
run-refused first before after old clean new n fault so_far pass = record {
  leaves = leaves-after first before after old clean new fault so_far.takes so_far.on pass.leaves;
  cleaning = record { goes_on = pass.cleaning.goes_on; keeps = keeps-more first before after so_far.keeps pass.cleaning.keeps; cause = pass.cleaning.cause };
  done = tt;
}

-- one clean has fewer turns than a zone has blocks: so data could not be read
pub run-over : (first disk : MountedView) (old clean : Option CleanView) (n : ℕ) → 4 ≤ first.drive.geometry.capacity → HasRun first old n disk clean → first.drive.geometry.capacity ≤ n + 1 → RoundAnswers first old (Ok tt) disk clean
run-over first disk old clean n big so_far over = record {
  leaves = leaves-done first disk old clean so_far.takes;
  cleaning = record { goes_on = so_far.agrees; keeps = so_far.keeps; cause = tt };
  done = inr (λ all. never clean (so_far.turns all) (λ idle. (so_far.idle all idle).0));
}
  where
    never : (x : Option CleanView) → (is_some x ≡ true → turns_left (batch_most first.drive.geometry) disk.tables x + n + 1 ≤ first.drive.geometry.capacity) → (x ≡ None → n ≡ 0) → ⊥
    never None running idle = absurd (omega (arith, over, big, idle refl))
    never (Some c) running idle = absurd (omega (arith, over, running refl))

-- ---- rounds

-- Rounds of turns were taken, and the host can take no zone yet: after the first one, data could not be read.
pub record HasTried (first : MountedView) (old : Option CleanView) (disk : MountedView) (clean : Option CleanView) : Type 0 where
  pub agrees : AgreesWithClean disk clean
  pub keeps : KeepsByCleaning first disk
  pub takes : TakesTurns first old disk clean
  pub on : (takes.turns ≡ 0) ⊎ IsOn disk clean
  pub lacks : disk.tables.unreadable ≡ [] → LacksZones disk.tables.roles

pub tried-none : (disk : MountedView) (clean : Option CleanView) → AgreesWithClean disk clean → LacksZones disk.tables.roles → HasTried disk clean disk clean
tried-none disk clean is lacks = record { agrees = is; keeps = keeps-none disk clean is; takes = record { turns = 0; done = (refl, refl) }; on = inl refl; lacks = λ all. lacks }

-- one round more, after which data could not be read
pub tried-more : (first before after : MountedView) (old clean new : Option CleanView) → HasTried first old before clean → RoundAnswers before clean (Ok tt) after new → after.tables.unreadable ≢ [] → HasTried first old after new
tried-more first before after old clean new so_far round some = record {
  agrees = round.cleaning.goes_on;
  keeps = keeps-more first before after so_far.keeps round.cleaning.keeps;
  takes = takes-join first before after old clean new so_far.takes so_far.on (done-takes before after clean new round.leaves);
  on = inr (inr (noted-failed after round.cleaning.goes_on.0 some));
  lacks = λ all. absurd (some all);
}

-- the host can take a zone now
pub tried-found : (first before after : MountedView) (old clean new : Option CleanView) → HasTried first old before clean → RoundAnswers before clean (Ok tt) after new → after.tables.roles.host ≡ None → (new ≡ None) × CanTake after.tables.roles → CleanAnswers first old (Ok tt) after new
tried-found first before after old clean new so_far round host finds = record {
  leaves = leaves-done first after old new (takes-join first before after old clean new so_far.takes so_far.on (done-takes before after clean new round.leaves));
  cleaning = record { goes_on = round.cleaning.goes_on; keeps = keeps-more first before after so_far.keeps round.cleaning.keeps; cause = tt };
  done = record { ended = finds.0; host = host; zone = finds.1 };
}

-- a turn was refused
pub tried-refused : (first before after : MountedView) (old clean new : Option CleanView) (fault : CleanFault) → HasTried first old before clean → RoundAnswers before clean (Err fault) after new → CleanAnswers first old (Err fault) after new
tried-refused first before after old clean new fault so_far round = record {
  leaves = leaves-after first before after old clean new fault so_far.takes so_far.on round.leaves;
  cleaning = record { goes_on = round.cleaning.goes_on; keeps = keeps-more first before after so_far.keeps round.cleaning.keeps; cause = round.cleaning.cause };
  done = tt;
}

-- after a round, data could be read: so the host can take a zone
pub round-found : (before after : MountedView) (old new : Option CleanView) → RoundAnswers before old (Ok tt) after new → after.tables.unreadable ≡ [] → (new ≡ None → CanTake after.tables.roles → ⊥) → ⊥
round-found before after old new round all none = elim round.done as (λ _. ⊥) [
  | inl zone ↦ none zone.ended zone.zone
  | inr some ↦ some all
]

-- a round for each zone, and the host can take none
pub tried-over : (first disk : MountedView) (old clean : Option CleanView) (fault : CleanFault) → HasTried first old disk clean → disk.tables.unreadable ≢ [] → fault ≡ unfinished disk.tables → CleanAnswers first old (Err fault) disk clean
tried-over first disk old clean fault so_far lost fault-is = by disk.tables.unreadable refl
  where
    by : (all : List Unreadable) → disk.tables.unreadable ≡ all → CleanAnswers first old (Err fault) disk clean
    by [] none = absurd (lost none)
    by (x ∷ xs) some =
        let failed : fault ≡ faults.Failed = fault-is ∙ ap why_unfinished some in
        rw failed (record {
          leaves = leaves-failed first disk disk old clean clean so_far.takes (record { drive = refl; tables = refl }) refl;
          cleaning = record { goes_on = so_far.agrees; keeps = so_far.keeps; cause = noted-failed disk so_far.agrees.0 lost };
          done = tt;
        })
