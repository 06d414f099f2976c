-- The clean that ran before a part of a call: it continues or ends, and only newer batches are new.
use Rattle.drive_port.specs.Drive.{DriveState}
use Rattle.std.proofs.Common.{◌≡◌, ◌⊎◌, ℕ, zero, suc, ◌≤◌, true, List, [], ◌∷◌, ◌++◌, length, Option, Some, None, is_some, Result, Ok, Err, refl, sym, ap, subst, ◌∙◌, inl, inr, arith, append-nil, append_assoc}
use Rattle.std.specs.Option.{option_map}
use Rattle.std.specs.Prelude.{OnOk, IsTrue, IsFalse}
use Rattle.std.proofs.lemmas.Bool.{cases_eq, cases_lt}
use Rattle.std.proofs.lemmas.List.{get_or-set_other, set_past}
use Rattle.zone_states.specs.declared.geometry.Geometry.{Geometry}
use Rattle.drive_port.specs.declared.device.Halt.{Halt}
use Rattle.drive_port.specs.declared.device.Halt.TheVariants as halt
use Rattle.batch_log.specs.Log.{Batch}
use Rattle.zone_choice.specs.Agreement.{MountedView, mounted_array, Agrees}
use Rattle.drive_array.specs.ZoneLogs.{drive_logs, log_at}
use Rattle.zone_choice.specs.Changes.{CanPlace, KeepsArray}
use Rattle.zone_choice.specs.Tables.{size_of}
use Rattle.zone_choice.proofs.AloneLaws.{stops-tables}
use Rattle.drive_array.specs.Records.{append_log, without}
use Rattle.drive_array.specs.Reserve.{batch_most}
use Rattle.drive_array.proofs.AppendLaws.{log_at-other, log_at-same}
use Rattle.drive_array.proofs.ClearingLaws.{without-same}
use Rattle.zone_cleaner.specs.declared.fault.CleanFault.{CleanFault}
use Rattle.zone_cleaner.specs.declared.fault.CleanFault.TheVariants as faults
use Rattle.zone_cleaner.specs.declared.step.Step.{Step}
use Rattle.zone_cleaner.specs.declared.step.Step.TheVariants.{Gather, Move, Reset, Undo}
use Rattle.zone_cleaner.specs.Clean.{CleanView, forgotten, turns_left}
use Rattle.zone_cleaner.specs.Start.{AgreesWithClean, AreMoreTurns, AreTurns, CleanLeaves, EndsBy, IsCleaningCause, IsOn, IsPassed, SameButLost, TurnLeaves}
use Rattle.zone_cleaner.specs.Turns.{StepDone, StepFails, after_move, next_step, with_record}
use Rattle.zone_cleaner.specs.LiveRecords.{live_content, gathered_move}
use Rattle.zone_cleaner.specs.Host.{HostLeaves}
use Rattle.zone_cleaner.proofs.CloseLaws.{close-turns, stops-close}
use Rattle.zone_cleaner.proofs.BesideLaws.{kept_turns}
use Rattle.zone_cleaner.proofs.TurnLaws.{refused-turns, turn_gives, turns_fewer, failed-kept}
use Rattle.zone_translator.specs.declared.fault.DiskFault.{DiskFault}
use Rattle.zone_translator.specs.declared.fault.DiskFault.TheVariants.{OutOfRange, OutOfMemory, Stopped, Spent, Unmounted, Smaller, Reserve, Damaged, Failed}
use Rattle.zone_translator.specs.Changes.{NoMoreTurns, cleaning_fault}
use Rattle.zone_translator.specs.Cleaning.{AddsNewer, AreNewer, GoesOnOrEnds, KeepsCleaning, OnlyNewer, log_in_zone}

-- ---- newer batches

newer-more : (low high : ℕ) (log : List Batch) → low ≤ high → AreNewer high log → AreNewer low log
newer-more low high [] le all = tt
newer-more low high (b ∷ bs) le all = (omega (arith, le, all.0), newer-more low high bs le all.1)

newer-append : (sequence : ℕ) (xs ys : List Batch) → AreNewer sequence xs → AreNewer sequence ys → AreNewer sequence (xs ++ ys)
newer-append sequence [] ys all more = more
newer-append sequence (x ∷ xs) ys all more = (all.0, newer-append sequence xs ys all.1 more)

-- no log has changed
pub newer-same : (sequence : ℕ) (old new : List (List Batch)) → new ≡ old → OnlyNewer sequence old new
newer-same sequence old new same zone = ([], tt, inr (ap (λ (logs : List (List Batch)). log_at logs zone) same ∙ sym (append-nil (log_at old zone))))

-- a batch more
newer-one : (sequence : ℕ) (old new : List (List Batch)) (zone : ℕ) (b : Batch) → sequence ≤ b.heading.sequence → new ≡ append_log old zone b → OnlyNewer sequence old new
newer-one sequence old new zone b newer is k = elim (cases_eq k zone) as (λ _. (more : List Batch) × AreNewer sequence more × ((log_at new k ≡ more) ⊎ (log_at new k ≡ log_at old k ++ more))) [
  | inl same ↦ elim (cases_lt zone (length old)) as (λ _. (more : List Batch) × AreNewer sequence more × ((log_at new k ≡ more) ⊎ (log_at new k ≡ log_at old k ++ more))) [
    | inl lt ↦ (b ∷ [], (newer, tt), inr (rw (same, is) (log_at-same old zone b lt)))
    | inr past ↦ newer-same sequence old new (is ∙ set_past old zone (log_at old zone ++ b ∷ []) past) k
  ]
  | inr other ↦ ([], tt, inr (rw is (log_at-other old zone k b other) ∙ sym (append-nil (log_at old k))))
]

newer-without : (sequence : ℕ) (old new : List (List Batch)) (zone : ℕ) → new ≡ without old zone → OnlyNewer sequence old new
newer-without sequence old new zone is k = elim (cases_eq k zone) as (λ _. (more : List Batch) × AreNewer sequence more × ((log_at new k ≡ more) ⊎ (log_at new k ≡ log_at old k ++ more))) [
  | inl same ↦ ([], tt, inl (rw (same, is) (without-same old zone)))
  | inr other ↦ ([], tt, inr (rw is (get_or-set_other old zone k [] [] other) ∙ sym (append-nil (log_at old k))))
]

-- first these, then those
newer-join : (low high : ℕ) (a b c : List (List Batch)) → low ≤ high → OnlyNewer low a b → OnlyNewer high b c → OnlyNewer low a c
newer-join low high a b c le p q zone = by (q zone)
  where
    here : (first second : List Batch) → AreNewer low first → AreNewer low second → (log_at b zone ≡ first) ⊎ (log_at b zone ≡ log_at a zone ++ first) → log_at c zone ≡ log_at b zone ++ second
        → (more : List Batch) × AreNewer low more × ((log_at c zone ≡ more) ⊎ (log_at c zone ≡ log_at a zone ++ more))
    here first second all more (inl is) then = (first ++ second, newer-append low first second all more, inl (then ∙ ap (λ (log : List Batch). log ++ second) is))
    here first second all more (inr is) then = (first ++ second, newer-append low first second all more, inr (then ∙ ap (λ (log : List Batch). log ++ second) is ∙ append_assoc (log_at a zone) first second))

    by : (more : List Batch) × AreNewer high more × ((log_at c zone ≡ more) ⊎ (log_at c zone ≡ log_at b zone ++ more)) → (more : List Batch) × AreNewer low more × ((log_at c zone ≡ more) ⊎ (log_at c zone ≡ log_at a zone ++ more))
    by (more, all, inl is) = (more, newer-more low high more le all, inl is)
    by (more, all, inr is) = here (p zone).0 more (p zone).1 (newer-more low high more le all) (p zone).2 is

-- a log of newer batches stays one
pub newer-log : (low high : ℕ) (old new : List (List Batch)) (zone : ℕ) → low ≤ high → AreNewer low (log_at old zone) → OnlyNewer high old new → AreNewer low (log_at new zone)
newer-log low high old new zone le all only = by (only zone)
  where
    by : (more : List Batch) × AreNewer high more × ((log_at new zone ≡ more) ⊎ (log_at new zone ≡ log_at old zone ++ more)) → AreNewer low (log_at new zone)
    by (more, newer, inl is) = rw is (newer-more low high more le newer)
    by (more, newer, inr is) = rw is (newer-append low (log_at old zone) more all (newer-more low high more le newer))

-- ---- turns

-- no more turns, and again no more
pub turns-join : (a b c : MountedView) (x y z : Option CleanView) → b.drive.geometry ≡ a.drive.geometry → NoMoreTurns a x b y → NoMoreTurns b y c z → NoMoreTurns a x c z
turns-join a b c x y z same p q =
    let there : turns_left (batch_most a.drive.geometry) c.tables z ≤ turns_left (batch_most a.drive.geometry) b.tables y = subst (λ (g : Geometry). turns_left (batch_most g) c.tables z ≤ turns_left (batch_most g) b.tables y) same q in
    omega (arith, p, there)

-- if no turn is left, no clean runs
none-left : (a b : MountedView) (y : Option CleanView) → NoMoreTurns a None b y → y ≡ None
none-left a b None few = refl
none-left a b (Some c) few = absurd (omega (arith, few))

-- ---- a clean continues, or ends

-- a clean that is the same continues
pub goes-same : (a b : MountedView) (x y : Option CleanView) → y ≡ x → NoMoreTurns a x b y → GoesOnOrEnds a x b y
goes-same a b None y same turns = tt
goes-same a b (Some c) None same turns = absurd (cc)
goes-same a b (Some c) (Some d) same turns = let is : d ≡ c = cc in (ap (λ (v : CleanView). v.victim) is, turns)

goes-running : (a b : MountedView) (c d : CleanView) (y : Option CleanView) → y ≡ Some d → d.victim ≡ c.victim → NoMoreTurns a (Some c) b y → GoesOnOrEnds a (Some c) b y
goes-running a b c d None is same turns = absurd (cc)
goes-running a b c d (Some e) is same turns = let here : e ≡ d = cc in (ap (λ (v : CleanView). v.victim) here ∙ same, turns)

goes-ended : (a b : MountedView) (c : CleanView) (y : Option CleanView) → y ≡ None → AreNewer a.tables.next (log_in_zone b.drive c.victim) → GoesOnOrEnds a (Some c) b y
goes-ended a b c None is newer = newer
goes-ended a b c (Some d) is newer = absurd (cc)

-- while it runs in between
pub goes-on : (a b c : MountedView) (x y z : Option CleanView) → a.tables.next ≤ b.tables.next → b.drive.geometry ≡ a.drive.geometry → is_some y ≡ true → GoesOnOrEnds a x b y → GoesOnOrEnds b y c z → GoesOnOrEnds a x c z
goes-on a b c None y z le same runs p q = tt
goes-on a b c (Some u) None z le same runs p q = absurd (cc)
goes-on a b c (Some u) (Some v) None le same runs p q = subst (λ (zone : ℕ). AreNewer a.tables.next (log_in_zone c.drive zone)) p.0 (newer-more a.tables.next b.tables.next (log_in_zone c.drive v.victim) le q)
goes-on a b c (Some u) (Some v) (Some w) le same runs p q = (q.0 ∙ p.0, turns-join a b c (Some u) (Some v) (Some w) same p.1 q.1)

-- ---- a part of a call in which no clean begins

-- a clean that ran continues or ends, only newer batches are new, and no more turns are left
pub record StaysClean (a : MountedView) (x : Option CleanView) (b : MountedView) (y : Option CleanView) : Type 0 where
  pub next : a.tables.next ≤ b.tables.next
  pub geometry : b.drive.geometry ≡ a.drive.geometry
  pub goes : IsTrue b.drive.unfailing → GoesOnOrEnds a x b y
  pub unfailing : IsTrue b.drive.unfailing → IsTrue a.drive.unfailing
  pub turns : NoMoreTurns a x b y
  pub newer : OnlyNewer a.tables.next (drive_logs a.drive) (drive_logs b.drive)

-- what keeps a clean twice keeps it
pub stays-join : (a b c : MountedView) (x y z : Option CleanView) → StaysClean a x b y → StaysClean b y c z → StaysClean a x c z
stays-join a b c x y z p q = record {
  next = omega (arith, p.next, q.next);
  geometry = q.geometry ∙ p.geometry;
  goes = λ up. by x y z (p.goes (q.unfailing up)) (q.goes up) q.turns;
  unfailing = λ up. p.unfailing (q.unfailing up);
  turns = turns-join a b c x y z p.geometry p.turns q.turns;
  newer = newer-join a.tables.next b.tables.next (drive_logs a.drive) (drive_logs b.drive) (drive_logs c.drive) p.next p.newer q.newer;
}
  where
    by : (x y z : Option CleanView) → GoesOnOrEnds a x b y → GoesOnOrEnds b y c z → NoMoreTurns b y c z → GoesOnOrEnds a x c z
    by None y z first then few = tt
    by (Some u) (Some v) z first then few = goes-on a b c (Some u) (Some v) z p.next p.geometry refl first then
    by (Some u) None z first then few = goes-ended a c u z (none-left b c z few) (newer-log a.tables.next b.tables.next (drive_logs b.drive) (drive_logs c.drive) u.victim p.next first q.newer)

-- the array is kept, and the clean is the same
pub array-stays : (a b : MountedView) (clean : Option CleanView) → AgreesWithClean a clean → KeepsArray a b → StaysClean a clean b clean
array-stays a b clean is kept =
    let turns = kept_turns a b clean (batch_most a.drive.geometry) is kept in
    record {
      next = omega (arith, kept.next);
      geometry = kept.geometry;
      goes = λ up. goes-same a b clean clean refl turns;
      unfailing = kept.unfailing;
      turns = turns;
      newer = newer-same a.tables.next (drive_logs a.drive) (drive_logs b.drive) kept.logs;
    }

-- nothing was done
pub same-stays : (disk : MountedView) (clean : Option CleanView) → StaysClean disk clean disk clean
same-stays disk clean = record {
  next = omega arith;
  geometry = refl;
  goes = λ up. goes-same disk disk clean clean refl (omega arith);
  unfailing = λ up. up;
  turns = omega arith;
  newer = newer-same disk.tables.next (drive_logs disk.drive) (drive_logs disk.drive) refl;
}

-- whatever the answer
adds-any : {V : Type 0} (a b : MountedView) (result : Result V DiskFault) → OnlyNewer a.tables.next (drive_logs a.drive) (drive_logs b.drive) → AddsNewer a result b
adds-any a b (Ok done) newer = newer
adds-any a b (Err OutOfRange) newer = newer
adds-any a b (Err OutOfMemory) newer = newer
adds-any a b (Err Failed) newer = newer
adds-any a b (Err Stopped) newer = tt
adds-any a b (Err Spent) newer = newer
adds-any a b (Err Smaller) newer = newer
adds-any a b (Err Reserve) newer = newer
adds-any a b (Err Unmounted) newer = newer
adds-any a b (Err Damaged) newer = newer

on-any : {V P : Type 0} (result : Result V DiskFault) → P → OnOk result P
on-any (Ok done) is = is
on-any (Err fault) is = tt

-- and keeps what calls promise of it
pub stays-cleaning : {V : Type 0} (a b : MountedView) (x y : Option CleanView) (result : Result V DiskFault) → StaysClean a x b y → KeepsCleaning a x result b y
stays-cleaning a b x y result stays = record { clean = stays.goes; unfailing = stays.unfailing; turns = on-any result stays.turns; newer = adds-any a b result stays.newer }

-- what was done stays clean
pub cleaning-stays : {V : Type 0} (a b : MountedView) (x y : Option CleanView) (done : V) → a.tables.next ≤ b.tables.next → b.drive.geometry ≡ a.drive.geometry → KeepsCleaning a x (Ok done) b y → StaysClean a x b y
cleaning-stays a b x y done le same keeps = record { next = le; geometry = same; goes = keeps.clean; unfailing = keeps.unfailing; turns = keeps.turns; newer = keeps.newer }

-- first a part that keeps the array and the clean
newer-after : {V : Type 0} (a b c : MountedView) (result : Result V DiskFault) → a.tables.next ≤ b.tables.next → OnlyNewer a.tables.next (drive_logs a.drive) (drive_logs b.drive) → AddsNewer b result c → AddsNewer a result c
newer-after a b c (Ok done) le p q = newer-join a.tables.next b.tables.next (drive_logs a.drive) (drive_logs b.drive) (drive_logs c.drive) le p q
newer-after a b c (Err OutOfRange) le p q = newer-join a.tables.next b.tables.next (drive_logs a.drive) (drive_logs b.drive) (drive_logs c.drive) le p q
newer-after a b c (Err OutOfMemory) le p q = newer-join a.tables.next b.tables.next (drive_logs a.drive) (drive_logs b.drive) (drive_logs c.drive) le p q
newer-after a b c (Err Failed) le p q = newer-join a.tables.next b.tables.next (drive_logs a.drive) (drive_logs b.drive) (drive_logs c.drive) le p q
newer-after a b c (Err Stopped) le p q = tt
newer-after a b c (Err Spent) le p q = newer-join a.tables.next b.tables.next (drive_logs a.drive) (drive_logs b.drive) (drive_logs c.drive) le p q
newer-after a b c (Err Smaller) le p q = newer-join a.tables.next b.tables.next (drive_logs a.drive) (drive_logs b.drive) (drive_logs c.drive) le p q
newer-after a b c (Err Reserve) le p q = newer-join a.tables.next b.tables.next (drive_logs a.drive) (drive_logs b.drive) (drive_logs c.drive) le p q
newer-after a b c (Err Unmounted) le p q = newer-join a.tables.next b.tables.next (drive_logs a.drive) (drive_logs b.drive) (drive_logs c.drive) le p q
newer-after a b c (Err Damaged) le p q = newer-join a.tables.next b.tables.next (drive_logs a.drive) (drive_logs b.drive) (drive_logs c.drive) le p q

on-then : {V P Q : Type 0} (result : Result V DiskFault) → (P → Q) → OnOk result P → OnOk result Q
on-then (Ok done) f is = f is
on-then (Err fault) f is = tt

-- so does what keeps the array before
pub array-first : {V : Type 0} (a b c : MountedView) (x z : Option CleanView) (result : Result V DiskFault) → AgreesWithClean a x → KeepsArray a b → KeepsCleaning b x result c z → KeepsCleaning a x result c z
array-first a b c x z result is kept keeps =
    let first = array-stays a b x is kept in
    record {
      clean = λ up. by x is first.turns (keeps.clean up);
      unfailing = λ up. kept.unfailing (keeps.unfailing up);
      turns = on-then result (λ more. turns-join a b c x x z kept.geometry first.turns more) keeps.turns;
      newer = newer-after a b c result first.next first.newer keeps.newer;
    }
  where
    by : (x : Option CleanView) → AgreesWithClean a x → NoMoreTurns a x b x → GoesOnOrEnds b x c z → GoesOnOrEnds a x c z
    by None is few goes = tt
    by (Some u) is few goes = goes-on a b c (Some u) (Some u) z (omega (arith, kept.next)) kept.geometry refl (refl, few) goes

-- ---- the turns of a clean

step-newer : (before after : MountedView) (c : CleanView) (new : Option CleanView) (step : Step) → StepDone step before c after new → OnlyNewer before.tables.next (drive_logs before.drive) (drive_logs after.drive)
step-newer before after c new (Gather block place) done = newer-same before.tables.next (drive_logs before.drive) (drive_logs after.drive) done.0.logs
step-newer before after c new Move done = newer-one before.tables.next (drive_logs before.drive) (drive_logs after.drive) done.0.destination.zone (gathered_move (size_of before.tables) before.tables.next c.victim c.gathered) (omega arith) done.0.places.logs
step-newer before after c new Reset done = newer-without before.tables.next (drive_logs before.drive) (drive_logs after.drive) c.victim done.0.logs
step-newer before after c new Undo done = newer-without before.tables.next (drive_logs before.drive) (drive_logs after.drive) done.0.destination.zone done.0.logs

step-goes : (before after : MountedView) (c : CleanView) (new : Option CleanView) (step : Step) → Agrees before → IsTrue after.drive.unfailing → NoMoreTurns before (Some c) after new → StepDone step before c after new → GoesOnOrEnds before (Some c) after new
step-goes before after c new (Gather block place) agrees up few done = goes-running before after c (with_record c block (live_content (mounted_array before) block place)) new done.2 refl few
step-goes before after c new Move agrees up few done = goes-running before after c (after_move before.tables c) new done.1 refl few
step-goes before after c new Reset agrees up few done = goes-ended before after c new done.1 (rw (done.0.logs, without-same (drive_logs before.drive) c.victim) tt)
step-goes before after c new Undo agrees up few done = absurd (done.0.lost (agrees.readable (done.0.unfailing up)))

-- what turns that are done keep
record TurnsKeep (before : MountedView) (old : Option CleanView) (after : MountedView) (new : Option CleanView) : Type 0 where
  cleaned : AgreesWithClean after new
  next : before.tables.next ≤ after.tables.next
  geometry : after.drive.geometry ≡ before.drive.geometry
  goes : IsTrue after.drive.unfailing → GoesOnOrEnds before old after new
  unfailing : IsTrue after.drive.unfailing → IsTrue before.drive.unfailing
  newer : OnlyNewer before.tables.next (drive_logs before.drive) (drive_logs after.drive)

turn-keeps : (before after : MountedView) (old new : Option CleanView) → AgreesWithClean before old → TurnLeaves before old (Ok tt) after new → TurnsKeep before old after new
turn-keeps before after old new is leaves =
    let gives = turn_gives before after old new (Ok tt) is leaves in
    record {
      cleaned = gives.goes_on;
      next = omega (arith, gives.keeps.next, gives.keeps.appended);
      geometry = gives.keeps.geometry;
      goes = λ up. goes old is up leaves;
      unfailing = gives.keeps.unfailing;
      newer = newer old leaves;
    }
  where
    goes : (old : Option CleanView) → AgreesWithClean before old → IsTrue after.drive.unfailing → TurnLeaves before old (Ok tt) after new → GoesOnOrEnds before old after new
    goes None is up leaves = tt
    goes (Some c) is up leaves =
        let fewer = (turns_fewer before after (Some c) new is leaves).fewer refl in
        step-goes before after c new (next_step (batch_most before.drive.geometry) before.tables c) is.0 up (omega (arith, fewer)) leaves

    newer : (old : Option CleanView) → TurnLeaves before old (Ok tt) after new → OnlyNewer before.tables.next (drive_logs before.drive) (drive_logs after.drive)
    newer None leaves = newer-same before.tables.next (drive_logs before.drive) (drive_logs after.drive) (ap drive_logs leaves.0)
    newer (Some c) leaves = step-newer before after c new (next_step (batch_most before.drive.geometry) before.tables c) leaves

keep-none : (disk : MountedView) (clean : Option CleanView) → AgreesWithClean disk clean → TurnsKeep disk clean disk clean
keep-none disk clean is = record { cleaned = is; next = omega arith; geometry = refl; goes = λ up. goes-same disk disk clean clean refl (omega arith); unfailing = λ up. up; newer = newer-same disk.tables.next (drive_logs disk.drive) (drive_logs disk.drive) refl }

-- a turn that failed
failed-keeps : (before after : MountedView) (old new : Option CleanView) → AgreesWithClean before old → TurnLeaves before old (Err faults.Failed) after new → TurnsKeep before old after new
failed-keeps before after None new is leaves = absurd leaves
failed-keeps before after (Some c) new is leaves =
    let gives = turn_gives before after (Some c) new (Err faults.Failed) is leaves in
    let parts = failed-kept before after (next_step (batch_most before.drive.geometry) before.tables c) leaves.0 in
    record {
      cleaned = gives.goes_on;
      next = omega (arith, gives.keeps.next, gives.keeps.appended);
      geometry = gives.keeps.geometry;
      goes = λ up. absurd (let down = parts.1 in cc);
      unfailing = gives.keeps.unfailing;
      newer = newer-same before.tables.next (drive_logs before.drive) (drive_logs after.drive) parts.0.logs;
    }

passed-keeps : (before after : MountedView) (old new : Option CleanView) (result : Result (Unit {0}) CleanFault) → IsPassed result → AgreesWithClean before old → TurnLeaves before old result after new → TurnsKeep before old after new
passed-keeps before after old new (Ok done) passed is leaves = turn-keeps before after old new is leaves
passed-keeps before after old new (Err faults.OutOfMemory) passed is leaves = absurd passed
passed-keeps before after old new (Err faults.Failed) passed is leaves = failed-keeps before after old new is leaves
passed-keeps before after old new (Err faults.Stopped) passed is leaves = absurd passed
passed-keeps before after old new (Err faults.Spent) passed is leaves = absurd passed
passed-keeps before after old new (Err faults.Damaged) passed is leaves = absurd passed

-- more turns, while no command fails of a clean that runs
keep-more : (a b c : MountedView) (x y z : Option CleanView) → IsOn b y → TurnsKeep a x b y → TurnsKeep b y c z → TurnsKeep a x c z
keep-more a b c x y z on p q = record {
  cleaned = q.cleaned;
  next = omega (arith, p.next, q.next);
  geometry = q.geometry ∙ p.geometry;
  goes = λ up. by x on (p.goes (q.unfailing up)) up;
  unfailing = λ up. p.unfailing (q.unfailing up);
  newer = newer-join a.tables.next b.tables.next (drive_logs a.drive) (drive_logs b.drive) (drive_logs c.drive) p.next p.newer q.newer;
}
  where
    by : (x : Option CleanView) → IsOn b y → GoesOnOrEnds a x b y → IsTrue c.drive.unfailing → GoesOnOrEnds a x c z
    by None on goes up = tt
    by (Some u) (inl runs) goes up = goes-on a b c (Some u) y z p.next p.geometry runs goes (q.goes up)
    by (Some u) (inr down) goes up = absurd (let still = q.unfailing up in cc)

more-keep : (n : ℕ) (a b c : MountedView) (x y z : Option CleanView) → TurnsKeep a x b y → AreMoreTurns n b y c z → TurnsKeep a x c z
more-keep zero a b c x y z first done = subst (λ (d : MountedView). TurnsKeep a x d z) (sym done.0) (subst (λ (v : Option CleanView). TurnsKeep a x b v) (sym done.1) first)
more-keep (suc n) a b c x y z first done =
    let turn = done.1 in
    let one = passed-keeps b turn.2.0 y turn.2.1 turn.0 turn.1 first.cleaned turn.2.2 in
    more-keep n a turn.2.0 c x turn.2.1 z (keep-more a b turn.2.0 x y turn.2.1 done.0 first one) turn.2.3

turns-keep : (n : ℕ) (before after : MountedView) (old new : Option CleanView) → AgreesWithClean before old → AreTurns n before old after new → TurnsKeep before old after new
turns-keep zero before after old new is done = rw (done.0, done.1) (keep-none before old is)
turns-keep (suc n) before after old new is done =
    more-keep n before done.2.0 after old done.2.1 new (passed-keeps before done.2.0 old done.2.1 done.0 done.1 is done.2.2) done.2.3

-- ---- a clean at once

-- a turn that was not done
turn-fails : {V : Type 0} (before after : MountedView) (old new : Option CleanView) (cause : CleanFault) → AgreesWithClean before old → TurnLeaves before old (Err cause) after new → (is_some old ≡ true) × KeepsCleaning {V = V} before old (Err (cleaning_fault cause)) after new
turn-fails {V} before after None new cause is leaves = absurd leaves
turn-fails {V} before after (Some c) new cause is leaves = (
  refl,
  record {
    clean = λ up. goes-running before after c c new leaves.1 refl (omega (arith, refused-turns before after (Some c) new (batch_most before.drive.geometry) (Err cause) leaves));
    unfailing = (turn_gives before after (Some c) new (Err cause) is leaves).keeps.unfailing;
    turns = tt;
    newer = by cause leaves.0;
  },
)
  where
    step : Step
    step = next_step (batch_most before.drive.geometry) before.tables c

    spent : (step : Step) → StepFails step faults.Spent before after → after ≡ before
    spent (Gather block place) fails = absurd fails
    spent Move fails = fails.0
    spent Reset fails = absurd fails
    spent Undo fails = absurd fails

    by : (cause : CleanFault) → StepFails step cause before after → AddsNewer {V = V} before (Err (cleaning_fault cause)) after
    by faults.OutOfMemory fails = newer-same before.tables.next (drive_logs before.drive) (drive_logs after.drive) fails.0.logs
    by faults.Failed fails = newer-same before.tables.next (drive_logs before.drive) (drive_logs after.drive) (failed-kept before after step fails).0.logs
    by faults.Stopped fails = tt
    by faults.Spent fails = newer-same before.tables.next (drive_logs before.drive) (drive_logs after.drive) (ap (λ (m : MountedView). drive_logs m.drive) (spent step fails))
    by faults.Damaged fails = absurd fails

-- turns, and one that was refused
refused-keep : {V : Type 0} (before middle after : MountedView) (old clean new : Option CleanView) (cause : CleanFault) → TurnsKeep before old middle clean → TurnLeaves middle clean (Err cause) after new → KeepsCleaning {V = V} before old (Err (cleaning_fault cause)) after new
refused-keep {V} before middle after old clean new cause kept refused =
    let last = turn-fails {V = V} middle after clean new cause kept.cleaned refused in
    record {
      clean = λ up. goes-on before middle after old clean new kept.next kept.geometry last.0 (kept.goes (last.1.unfailing up)) (last.1.clean up);
      unfailing = λ up. kept.unfailing (last.1.unfailing up);
      turns = tt;
      newer = newer-after {V = V} before middle after (Err (cleaning_fault cause)) kept.next kept.newer last.1.newer;
    }

-- turns, and no more
over-keep : {V : Type 0} (before middle after : MountedView) (old clean new : Option CleanView) → TurnsKeep before old middle clean → SameButLost middle after → IsFalse after.drive.unfailing → KeepsCleaning {V = V} before old (Err Failed) after new
over-keep {V} before middle after old clean new kept same down = record {
  clean = λ up. absurd (cc);
  unfailing = λ up. absurd (cc);
  turns = tt;
  newer = subst (λ (d : DriveState). OnlyNewer before.tables.next (drive_logs before.drive) (drive_logs d)) (sym same.drive) kept.newer;
}

-- a zone was not cleaned
pub zone-fails : {V : Type 0} (before after : MountedView) (old new : Option CleanView) (cause : CleanFault) → AgreesWithClean before old → CleanLeaves before old (Err cause) after new → IsCleaningCause after.drive after.tables.next cause
    → KeepsCleaning {V = V} before old (Err (cleaning_fault cause)) after new
zone-fails {V} before after old new cause is leaves why =
    let kept = turns-keep leaves.0 before leaves.1 old leaves.2 is leaves.3 in
    by cause kept leaves.4 why
  where
    by : (cause : CleanFault) → TurnsKeep before old leaves.1 leaves.2 → EndsBy cause leaves.1 leaves.2 after new → IsCleaningCause after.drive after.tables.next cause → KeepsCleaning {V = V} before old (Err (cleaning_fault cause)) after new
    by faults.OutOfMemory kept ends why = refused-keep {V = V} before leaves.1 after old leaves.2 new faults.OutOfMemory kept ends
    by faults.Failed kept (inl ends) why = refused-keep {V = V} before leaves.1 after old leaves.2 new faults.Failed kept ends
    by faults.Failed kept (inr over) why = over-keep {V = V} before leaves.1 after old leaves.2 new kept over.0 why
    by faults.Stopped kept ends why = refused-keep {V = V} before leaves.1 after old leaves.2 new faults.Stopped kept ends
    by faults.Spent kept ends why = refused-keep {V = V} before leaves.1 after old leaves.2 new faults.Spent kept ends
    by faults.Damaged kept ends why = refused-keep {V = V} before leaves.1 after old leaves.2 new faults.Damaged kept ends

-- one that was leaves no turns
pub zone-stays : (before after : MountedView) (old new : Option CleanView) → AgreesWithClean before old → CleanLeaves before old (Ok tt) after new → new ≡ None → StaysClean before old after new
zone-stays before after old new is leaves ended =
    let kept = turns-keep leaves.0 before after old new is leaves.1 in
    record { next = kept.next; geometry = kept.geometry; goes = kept.goes; unfailing = kept.unfailing; turns = rw ended (omega arith); newer = kept.newer }

-- ---- a batch of the host

-- a batch of the host keeps it
pub append-stays : (b c : MountedView) (old new : Option CleanView) (zone : ℕ) (batch : Batch) (result : Result (Unit {0}) Halt) → CanPlace b zone batch → HostLeaves b old zone batch result c new → StaysClean b old c new
append-stays b c old new zone batch (Ok done) can leaves = record {
  next = omega (arith, leaves.0.next);
  geometry = leaves.0.geometry;
  goes = λ up. forgets old new leaves.1 leaves.2.turns;
  unfailing = leaves.0.unfailing;
  turns = leaves.2.turns;
  newer = newer-one b.tables.next (drive_logs b.drive) (drive_logs c.drive) zone batch (omega (arith, can.sequence)) leaves.0.logs;
}
  where
    forgets : (old new : Option CleanView) → new ≡ option_map (forgotten batch.heading.entries) old → NoMoreTurns b old c new → GoesOnOrEnds b old c new
    forgets None new is turns = tt
    forgets (Some u) new is turns = goes-running b c u (forgotten batch.heading.entries u) new is refl turns
append-stays b c old new zone batch (Err halt.Memory) can leaves = record {
  next = omega (arith, leaves.0.next);
  geometry = leaves.0.geometry;
  goes = λ up. goes-same b c old new leaves.1 leaves.2.turns;
  unfailing = leaves.0.unfailing;
  turns = leaves.2.turns;
  newer = newer-same b.tables.next (drive_logs b.drive) (drive_logs c.drive) leaves.0.logs;
}
append-stays b c old new zone batch (Err halt.Failed) can leaves = record {
  next = omega (arith, leaves.0.next);
  geometry = leaves.0.geometry;
  goes = λ up. goes-same b c old new leaves.1 leaves.2.turns;
  unfailing = leaves.0.unfailing;
  turns = leaves.2.turns;
  newer = newer-same b.tables.next (drive_logs b.drive) (drive_logs c.drive) leaves.0.logs;
}
append-stays b c old new zone batch (Err halt.Stopped) can leaves =
    let turns : NoMoreTurns b old c new = rw leaves.1 (omega (arith, close-turns b c.tables (batch_most b.drive.geometry) old (stops-close b c zone batch leaves.0))) in
    record {
      next = omega (arith, (stops-tables b c zone batch leaves.0).next);
      geometry = leaves.0.geometry;
      goes = λ up. goes-same b c old new leaves.1 turns;
      unfailing = leaves.0.unfailing;
      turns = turns;
      newer = elim leaves.0.left as (λ _. OnlyNewer b.tables.next (drive_logs b.drive) (drive_logs c.drive)) [
        | inl same ↦ newer-same b.tables.next (drive_logs b.drive) (drive_logs c.drive) same.logs_are
        | inr more ↦ newer-one b.tables.next (drive_logs b.drive) (drive_logs c.drive) zone batch (omega (arith, can.sequence)) more.logs_are
      ];
    }
