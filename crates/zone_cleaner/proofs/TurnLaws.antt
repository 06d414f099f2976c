-- After a turn: the clean continues, with fewer turns left, and the array stays.
use Rattle.std.proofs.Common.{◌≡◌, ℕ, ◌+◌, ◌<◌, ◌≤◌, Bool, true, false, cond, map, length, set, get_or, Option, Some, None, Result, Ok, Err, refl, sym, ap, ◌∙◌, arith}
use Rattle.std.specs.List.{count_by}
use Rattle.std.specs.Option.{option_map}
use Rattle.std.specs.Prelude.{IsFalse, OnErr, OnOk}
use Rattle.std.proofs.lemmas.List.{length-map}
use Rattle.drive_port.specs.Contents.{content_of}
use Rattle.std.proofs.lemmas.List.Sums.{get_or-le-sum_by, sum_by-set}
use Rattle.drive_port.specs.Drive.{DriveState}
use Rattle.zone_choice.specs.declared.roles.Filling.{Filling}
use Rattle.zone_choice.specs.declared.roles.Second.{Second}
use Rattle.zone_choice.specs.declared.roles.Second.TheVariants.{Destination}
use Rattle.zone_choice.specs.Agreement.{MountedView, mounted, mounted_array}
use Rattle.drive_array.specs.ZoneLogs.{drive_logs}
use Rattle.zone_choice.specs.Changes.{KeepsArray, Places, sequence_end}
use Rattle.drive_array.specs.Mountable.{IsMountable}
use Rattle.drive_array.specs.Reserve.{batch_most}
use Rattle.zone_choice.specs.Roles.{RolesView, clean_ended, clean_undone, empty_count, ended}
use Rattle.drive_array.specs.Spare.{HasSpare}
use Rattle.zone_choice.specs.Tables.{TablesView, size_of}
use Rattle.zone_choice.proofs.AgreementLaws.{agrees_mountable, empty-spare}
use Rattle.zone_choice.proofs.MarkLaws.{sealed-parts}
use Rattle.drive_array.proofs.ReserveLaws.{positive-most}
use Rattle.zone_cleaner.specs.declared.fault.CleanFault.{CleanFault}
use Rattle.zone_cleaner.specs.declared.fault.CleanFault.TheVariants as faults
use Rattle.zone_cleaner.specs.declared.step.Step.{Step}
use Rattle.zone_cleaner.specs.declared.step.Step.TheVariants.{Gather, Move, Reset, Undo}
use Rattle.zone_cleaner.specs.Clean.{CleanView, HasNoDestination, turns_left, trims}
use Rattle.zone_cleaner.specs.LiveRecords.{live_content, gathered_move}
use Rattle.zone_cleaner.specs.Start.{AgreesWithClean, CleaningLeaves, KeepsByCleaning, StartLeaves, TurnDone, TurnLeaves, TurnsFewer}
use Rattle.zone_cleaner.specs.Turns.{StepDone, StepFails, StepLeaves, next_step, with_record}
use Rattle.zone_cleaner.proofs.RoomLaws.{turn-room}
use Rattle.zone_cleaner.proofs.CleanLaws.{clean_kept, clean_spare, gather_gives, turns_kept}
use Rattle.zone_cleaner.proofs.CloseLaws.{close-keeps, close-turns}
use Rattle.zone_cleaner.proofs.EndLaws.{destination-is}
use Rattle.zone_cleaner.proofs.KindLaws.{move-trims}
use Rattle.zone_cleaner.proofs.MovedLaws.{move_gives}
use Rattle.zone_cleaner.proofs.OnlyLaws.{only-join, only-more, only-same, only-without}
use Rattle.zone_cleaner.proofs.SealedLaws.{second-filling, sealed-in_range, zone-logs}
use Rattle.zone_choice.proofs.CommandLaws.{filling-in_range}
use Rattle.zone_cleaner.proofs.StartLaws.{start_gives}
use Rattle.zone_cleaner.proofs.StepLaws.{gather-due, move-due}

-- ---- a drive that is cleaned can be mounted

-- a disk that is cleaned has a spare zone
pub cleans-spare : (disk : MountedView) (clean : Option CleanView) → AgreesWithClean disk clean → HasSpare disk.drive.geometry.block disk.tables.given (drive_logs disk.drive)
cleans-spare disk None is = empty-spare disk.drive disk.tables is.0 is.1.0
cleans-spare disk (Some c) is = clean_spare disk c is.0 is.1

-- so it can be mounted
pub cleans_mountable : (disk : MountedView) (clean : Option CleanView) → AgreesWithClean disk clean → IsMountable disk.drive disk.tables.given
cleans_mountable disk clean is = agrees_mountable disk.drive disk.tables is.0 (cleans-spare disk clean is)

-- ---- one step

-- the clean continues, with fewer turns left
pub record GoesForward (most : ℕ) (before : MountedView) (c : CleanView) (after : MountedView) (new : Option CleanView) : Type 0 where
  pub cleaned : AgreesWithClean after new
  pub fewer : turns_left most after.tables new < turns_left most before.tables (Some c)

ended-alone : (capacity : ℕ) (second : Option Second) (f : Filling) → second ≡ Some (Destination f) → f.written + 2 ≤ capacity → HasNoDestination capacity (option_map ended second)
ended-alone capacity second f e room = rw e room

empty-more : (roles : RolesView) (victim : ℕ) → victim < length roles.empty → 1 ≤ empty_count (clean_ended roles victim)
empty-more roles victim lt =
    let more : count_by (λ (b : Bool). b) (set roles.empty victim true) + cond {A = ℕ} (get_or roles.empty victim false) 1 0 ≡ count_by (λ (b : Bool). b) roles.empty + 1 = sum_by-set (λ (b : Bool). cond {A = ℕ} b 1 0) roles.empty victim true false lt in
    by (get_or roles.empty victim false) refl more
  where
    by : (b : Bool) → get_or roles.empty victim false ≡ b → count_by (λ (x : Bool). x) (set roles.empty victim true) + cond {A = ℕ} b 1 0 ≡ count_by (λ (x : Bool). x) roles.empty + 1 → 1 ≤ count_by (λ (x : Bool). x) (set roles.empty victim true)
    by false e more = omega (arith, more)
    by true e more =
        let one : cond {A = ℕ} (get_or roles.empty victim false) 1 0 ≡ 1 = rw e refl in
        omega (arith, more, one, get_or-le-sum_by (λ (x : Bool). cond {A = ℕ} x 1 0) roles.empty victim false lt)

-- a clean is given up: the destination is empty
undone-cleans : (capacity : ℕ) (roles : RolesView) (f : Filling) → roles.second ≡ Some (Destination f) → f.zone < length roles.empty → (1 ≤ empty_count (clean_undone roles)) × HasNoDestination capacity (clean_undone roles).second
undone-cleans capacity roles f is lt = rw is (empty-more roles f.zone lt, tt)

step_forward : (before after : MountedView) (c : CleanView) (new : Option CleanView) (step : Step) → AgreesWithClean before (Some c) → next_step (batch_most before.drive.geometry) before.tables c ≡ step → StepDone step before c after new → GoesForward (batch_most before.drive.geometry) before c after new
step_forward before after c new (Gather block place) is due done =
    let most = batch_most before.drive.geometry in
    let g = gather-due before most c block place due in
    let gives = gather_gives before c block place is.1 g.found g.few in
    let next = with_record c block (live_content (mounted_array before) block place) in
    let kept = turns_kept before after next most is.0 done.0 gives.clean in
    rw done.2 (record { cleaned = (done.0.agrees, clean_kept before after next is.0 done.0 gives.clean); fewer = omega (arith, kept, gives.fewer) })
step_forward before after c new Move is due done =
    let most = batch_most before.drive.geometry in
    let same = destination-is done.0.destination is.1.destination (sym done.0.second ∙ is.1.second) in
    let placed : Places before after is.1.destination.zone (gathered_move (size_of before.tables) before.tables.next c.victim c.gathered) = rw (← same) done.0.places in
    let gives = move_gives before after c is.0 is.1 (move-due before most c due (positive-most before.drive.geometry is.0.geometry) is.1.gathers.few) placed in
    rw done.1 (record { cleaned = (placed.agrees, gives.clean); fewer = gives.fewer })
step_forward before after c new Reset is due done =
    let was = sealed-parts before.tables.roles c.victim is.1.victim in
    rw done.1 (record {
      cleaned = (done.0.agrees, rw (done.0.roles, done.0.geometry) (empty-more before.tables.roles c.victim was.in_range, ended-alone before.drive.geometry.capacity before.tables.roles.second is.1.destination is.1.second (omega (arith, is.1.room))));
      fewer = omega arith;
    })
step_forward before after c new Undo is due done =
    let filling = second-filling before.tables.roles (Destination is.1.destination) is.1.second in
    let below : is.1.destination.zone < length before.tables.roles.empty = omega (arith, filling-in_range before.drive before.tables is.1.destination.zone is.0 filling, is.0.roles.count, length-map before.drive.zones content_of) in
    rw done.1 (record {
      cleaned = (done.0.agrees, rw (done.0.roles, done.0.geometry) (undone-cleans before.drive.geometry.capacity before.tables.roles is.1.destination is.1.second below));
      fewer = omega arith;
    })

-- what keeps the array is kept by cleaning
pub array_keeps : (before after : MountedView) (new : Option CleanView) → AgreesWithClean after new → KeepsArray before after → KeepsByCleaning before after
array_keeps before after new cleaned kept = record {
  mountable = cleans_mountable after new cleaned;
  array = kept.array;
  moves = only-same (drive_logs before.drive) (drive_logs after.drive) kept.logs;
  size = ap length kept.places;
  trimmed = ap (map trims) kept.places;
  given = kept.given;
  geometry = kept.geometry;
  refused = kept.refused;
  durable = kept.durable;
  next = omega (arith, kept.next, kept.appended);
  appended = omega (arith, kept.appended);
  unfailing = kept.unfailing;
}

-- what a step keeps that is done
step-keeps : (before after : MountedView) (c : CleanView) (new : Option CleanView) (step : Step) → AgreesWithClean before (Some c) → AgreesWithClean after new → StepDone step before c after new → KeepsByCleaning before after
step-keeps before after c new (Gather block place) is cleaned done = array_keeps before after new cleaned done.0
step-keeps before after c new Move is cleaned done = let moved = move-trims before after c is.0 is.1 done.0 in record {
  mountable = cleans_mountable after new cleaned;
  array = done.0.array;
  moves = only-more (drive_logs before.drive) (drive_logs after.drive) done.0.destination.zone (gathered_move (size_of before.tables) before.tables.next c.victim c.gathered) (omega (arith, filling-in_range before.drive before.tables done.0.destination.zone is.0 (second-filling before.tables.roles (Destination done.0.destination) done.0.second), zone-logs before.drive)) refl done.0.places.logs;
  size = done.0.places.size;
  trimmed = moved;
  given = done.0.places.given;
  geometry = done.0.places.geometry;
  refused = done.0.places.refused;
  durable = done.0.places.durable;
  next = omega (arith, done.0.places.next, done.0.places.appended);
  appended = omega (arith, done.0.places.appended);
  unfailing = done.0.places.unfailing;
}
step-keeps before after c new Reset is cleaned done = record {
  mountable = cleans_mountable after new cleaned;
  array = done.0.array;
  moves = only-without (drive_logs before.drive) (drive_logs after.drive) c.victim (omega (arith, sealed-in_range before c.victim is.0 is.1.victim, zone-logs before.drive)) done.0.logs;
  size = ap length done.0.places;
  trimmed = ap (map trims) done.0.places;
  given = done.0.given;
  geometry = done.0.geometry;
  refused = done.0.refused;
  durable = done.0.durable;
  next = omega (arith, done.0.next, done.0.appended);
  appended = omega (arith, done.0.appended);
  unfailing = done.0.unfailing;
}
step-keeps before after c new Undo is cleaned done = record {
  mountable = cleans_mountable after new cleaned;
  array = done.0.array;
  moves = only-without (drive_logs before.drive) (drive_logs after.drive) done.0.destination.zone (omega (arith, filling-in_range before.drive before.tables done.0.destination.zone is.0 (second-filling before.tables.roles (Destination done.0.destination) done.0.second), zone-logs before.drive)) done.0.logs;
  size = sym (length-map after.tables.map.places trims) ∙ ap length done.0.trimmed ∙ length-map before.tables.map.places trims;
  trimmed = done.0.trimmed;
  given = done.0.given;
  geometry = done.0.geometry;
  refused = done.0.refused;
  durable = done.0.durable;
  next = omega (arith, done.0.next, done.0.appended);
  appended = omega (arith, done.0.appended);
  unfailing = done.0.unfailing;
}

-- ---- a step that is not done

-- after a command that failed the array is the same
pub failed-kept : (before after : MountedView) (step : Step) → StepFails step faults.Failed before after → KeepsArray before after × IsFalse after.drive.unfailing
failed-kept before after (Gather block place) fails = (fails.0, fails.2)
failed-kept before after Move fails = (fails.0, fails.2)
failed-kept before after Reset fails = (fails.0, fails.2)
failed-kept before after Undo fails = (fails.0, fails.2)

failed-turns : (before after : MountedView) (c : CleanView) (most : ℕ) (step : Step) → StepFails step faults.Failed before after → turns_left most after.tables (Some c) ≡ turns_left most before.tables (Some c)
failed-turns before after c most (Gather block place) fails = rw fails.1 refl
failed-turns before after c most Move fails = close-turns before after.tables most (Some c) fails.1
failed-turns before after c most Reset fails = close-turns before after.tables most (Some c) fails.1
failed-turns before after c most Undo fails = close-turns before after.tables most (Some c) fails.1

keeps-kept : (before after : MountedView) (c : CleanView) → AgreesWithClean before (Some c) → KeepsArray before after → AgreesWithClean after (Some c) × KeepsByCleaning before after
keeps-kept before after c is kept =
    let cleaned : AgreesWithClean after (Some c) = (kept.agrees, clean_kept before after c is.0 kept is.1) in
    (cleaned, array_keeps before after (Some c) cleaned kept)

-- only a Move lacks a sequence
spent-move : (before after : MountedView) (step : Step) → StepFails step faults.Spent before after → (after ≡ before) × (sequence_end before.drive.geometry ≤ before.tables.next)
spent-move before after (Gather block place) fails = absurd fails
spent-move before after Move fails = fails
spent-move before after Reset fails = absurd fails
spent-move before after Undo fails = absurd fails

fails_give : (before after : MountedView) (c : CleanView) (new : Option CleanView) (step : Step) (fault : CleanFault) → AgreesWithClean before (Some c) → StepFails step fault before after → new ≡ Some c → CleaningLeaves before (Err fault) after new
fails_give before after c new step faults.OutOfMemory is fails same = let kept = keeps-kept before after c is fails.0 in rw same (record { goes_on = kept.0; keeps = kept.1; cause = tt })
fails_give before after c new step faults.Failed is fails same =
    let parts = failed-kept before after step fails in
    let kept = keeps-kept before after c is parts.0 in
    rw same (record { goes_on = kept.0; keeps = kept.1; cause = parts.1 })
fails_give before after c new step faults.Stopped is fails same =
    let but = close-keeps before after.tables fails.tables in
    record {
      goes_on = tt;
      keeps = record {
        mountable = fails.mountable;
        array = fails.array;
        moves = fails.moves;
        size = ap (λ m. length m.places) but.map;
        trimmed = ap (λ m. map trims m.places) but.map;
        given = but.given;
        geometry = fails.geometry;
        refused = fails.refused;
        durable = fails.durable;
        next = omega (arith, but.next, fails.appended);
        appended = omega (arith, fails.appended);
        unfailing = fails.unfailing;
      };
      cause = fails.stopped;
    }
fails_give before after c new step faults.Spent is fails same = let spent = spent-move before after step fails in rw (same, spent.0) (record {
  goes_on = is;
  keeps = record { mountable = cleans_mountable before (Some c) is; array = refl; moves = only-same (drive_logs before.drive) (drive_logs before.drive) refl; size = refl; trimmed = refl; given = refl; geometry = refl; refused = refl; durable = refl; next = refl; appended = omega arith; unfailing = λ up. up };
  cause = spent.1;
})
fails_give before after c new step faults.Damaged is fails same = absurd fails

step_gives : (before after : MountedView) (c : CleanView) (new : Option CleanView) (result : Result (Unit {0}) CleanFault) → AgreesWithClean before (Some c) → StepLeaves (next_step (batch_most before.drive.geometry) before.tables c) before c result after new → CleaningLeaves before result after new
step_gives before after c new (Ok done) is leaves =
    let forward = step_forward before after c new (next_step (batch_most before.drive.geometry) before.tables c) is refl leaves in
    record { goes_on = forward.cleaned; keeps = step-keeps before after c new (next_step (batch_most before.drive.geometry) before.tables c) is forward.cleaned leaves; cause = tt }
step_gives before after c new (Err fault) is leaves = fails_give before after c new (next_step (batch_most before.drive.geometry) before.tables c) fault is leaves.0 leaves.1

-- ---- a turn that is not done adds none

fails-turns : (before after : MountedView) (c : CleanView) (most : ℕ) (step : Step) (fault : CleanFault) → StepFails step fault before after → turns_left most after.tables (Some c) ≡ turns_left most before.tables (Some c)
fails-turns before after c most step faults.OutOfMemory fails = close-turns before after.tables most (Some c) fails.1
fails-turns before after c most step faults.Failed fails = failed-turns before after c most step fails
fails-turns before after c most step faults.Stopped fails = close-turns before after.tables most (Some c) fails.tables
fails-turns before after c most step faults.Spent fails = rw (spent-move before after step fails).0 refl
fails-turns before after c most step faults.Damaged fails = absurd fails

-- a turn that was refused leaves as many turns
pub refused-turns : (before after : MountedView) (old new : Option CleanView) (most : ℕ) (result : Result (Unit {0}) CleanFault) → TurnLeaves before old result after new → OnErr result (turns_left most after.tables new ≡ turns_left most before.tables old)
refused-turns before after old new most (Ok done) leaves = tt
refused-turns before after None new most (Err fault) leaves = absurd leaves
refused-turns before after (Some c) new most (Err fault) leaves = rw leaves.1 (fails-turns before after c most (next_step (batch_most before.drive.geometry) before.tables c) fault leaves.0)

-- ---- a turn

start-leaves : (drive : DriveState) (old new : TablesView) (clean : Option CleanView) → AgreesWithClean (mounted drive old) None → StartLeaves drive.geometry old new clean → AgreesWithClean (mounted drive new) clean × (new.given ≡ old.given) × (size_of new ≡ size_of old) × (new.next ≡ old.next) × (map trims new.map.places ≡ map trims old.map.places)
start-leaves drive old new None is leaves = rw leaves.1 (is, refl, refl, refl, refl)
start-leaves drive old new (Some c) is starts =
    let gives = start_gives drive old new starts.victim starts.destination is.0 starts.due starts.lowest starts.tables in
    (rw starts.clean_is gives.cleaned, rw starts.tables refl, rw starts.tables refl, rw starts.tables refl, rw starts.tables refl)

-- after each turn
pub turn_gives : (before after : MountedView) (old new : Option CleanView) (result : Result (Unit {0}) CleanFault) → AgreesWithClean before old → TurnLeaves before old result after new → CleaningLeaves before result after new
turn_gives before after (Some c) new result is leaves = step_gives before after c new result is leaves
turn_gives before after None new (Err fault) is leaves = absurd leaves
turn_gives before after None new (Ok done) is leaves =
    let started = start-leaves before.drive before.tables after.tables new is leaves.1 in
    let cleaned : AgreesWithClean after new = rw leaves.0 started.0 in
    record {
      goes_on = cleaned;
      keeps = record {
        mountable = cleans_mountable after new cleaned;
        array = rw (leaves.0, started.1) refl;
        moves = only-same (drive_logs before.drive) (drive_logs after.drive) (ap drive_logs leaves.0);
        size = started.2;
        trimmed = started.4;
        given = started.1;
        geometry = rw leaves.0 refl;
        refused = rw leaves.0 refl;
        durable = rw leaves.0 refl;
        next = omega (arith, started.3, ap (λ (d : DriveState). d.appended) leaves.0);
        appended = omega (arith, ap (λ (d : DriveState). d.appended) leaves.0);
        unfailing = λ up. rw leaves.0 at up;
      };
      cause = tt;
    }

-- one that was done leaves fewer turns
pub turns_fewer : (before after : MountedView) (old new : Option CleanView) → AgreesWithClean before old → TurnLeaves before old (Ok tt) after new → TurnsFewer before after old new
turns_fewer before after (Some c) new is leaves = record {
  fewer = λ some. (step_forward before after c new (next_step (batch_most before.drive.geometry) before.tables c) is refl leaves).fewer;
  bound = λ none. absurd (let bad : true ≡ false = none in cc);
}
turns_fewer before after None new is leaves = record { fewer = λ some. absurd (let bad : false ≡ true = some in cc); bound = λ none. by new leaves.1 }
  where
    by : (new : Option CleanView) → StartLeaves before.drive.geometry before.tables after.tables new → turns_left (batch_most before.drive.geometry) after.tables new + 1 ≤ before.drive.geometry.capacity
    by None none = omega (arith, is.0.geometry.capacity)
    by (Some c) starts = rw starts.clean_is (start_gives before.drive before.tables after.tables starts.victim starts.destination is.0 starts.due starts.lowest starts.tables).turns

-- the same before any turn
pub keeps-none : (disk : MountedView) (clean : Option CleanView) → AgreesWithClean disk clean → KeepsByCleaning disk disk
keeps-none disk clean is = record { mountable = cleans_mountable disk clean is; array = refl; moves = only-same (drive_logs disk.drive) (drive_logs disk.drive) refl; size = refl; trimmed = refl; given = refl; geometry = refl; refused = refl; durable = refl; next = refl; appended = omega arith; unfailing = λ up. up }

-- what two turns keep
pub keeps-more : (a b c : MountedView) → KeepsByCleaning a b → KeepsByCleaning b c → KeepsByCleaning a c
keeps-more a b c p q = record {
  mountable = q.mountable;
  array = q.array ∙ p.array;
  moves = only-join (drive_logs a.drive) (drive_logs b.drive) (drive_logs c.drive) p.moves q.moves;
  size = q.size ∙ p.size;
  trimmed = q.trimmed ∙ p.trimmed;
  given = q.given ∙ p.given;
  geometry = q.geometry ∙ p.geometry;
  refused = q.refused ∙ p.refused;
  durable = q.durable ∙ p.durable;
  next = omega (arith, p.next, q.next);
  appended = omega (arith, p.appended, q.appended);
  unfailing = λ up. p.unfailing (q.unfailing up);
}

-- with what the zones being filled are then
pub on-done : (before after : MountedView) (old new : Option CleanView) (result : Result (Unit {0}) CleanFault) → AgreesWithClean before old → TurnLeaves before old result after new → OnOk result (TurnDone before after old new)
on-done before after old new (Ok done) is leaves = record { turns = turns_fewer before after old new is leaves; room = turn-room before after old new is leaves }
on-done before after old new (Err fault) is leaves = tt
