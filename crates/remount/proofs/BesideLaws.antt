-- What a mount leaves of the zones that it neither empties nor repairs, and which zones it opens.
use Rattle.std.proofs.Common.{◌≡◌, ◌≢◌, ◌⊎◌, inl, inr, ℕ, zero, suc, ◌+◌, ◌<◌, ◌≤◌, ◌==◌, ◌&&◌, not, Bool, true, false, cond, eqb, List, [], ◌∷◌, length, set, Option, Some, None, refl, sym, ap, subst, ◌∙◌, arith}
use Rattle.std.specs.List.{AllByRecursion}
use Rattle.std.proofs.lemmas.Bool.{cases_eq, cases_lt, eqb-true}
use Rattle.std.proofs.lemmas.List.{get_or-set_other, get_or-set_same, get_or_past, length-map, length-set}
use Rattle.zone_states.specs.declared.geometry.Geometry.{Geometry}
use Rattle.drive_port.specs.Contents.{Content, active, content_at, content_of, contents, empty, finished, full, is_active_usage}
use Rattle.drive_port.specs.Drive.{DriveState}
use Rattle.batch_log.specs.Log.{Batch, log_size}
use Rattle.zone_choice.specs.Agreement.{IsShut}
use Rattle.drive_array.specs.ZoneLogs.{drive_logs, log_at, zone_log, zone_tails}
use Rattle.drive_array.specs.Mountable.{is_partly_written}
use Rattle.drive_array.specs.Repair.{HasAtMost}
use Rattle.drive_array.specs.Reserve.{batch_most}
use Rattle.drive_array.specs.Spare.{IsVacant, cleared}
use Rattle.drive_array.proofs.ReserveLaws.{positive-most}
use Rattle.drive_array.proofs.ZoneLogLaws.{log_at-zone}
use Rattle.drive_array.proofs.RepairingMounts.{emptied-nothing}
use Rattle.remount.specs.declared.repair.Repair.{Repair}
use Rattle.remount.specs.declared.repair.moves.MovePlan.{MovePlan}
use Rattle.drive_survey.specs.declared.survey.Survey.{Survey}
use Rattle.remount.specs.Kept.{KeepsMountable}
use Rattle.remount.specs.Mount.{FinishesByNeed, FinishesBeside, LeavesBeside, PlansRepair, TookMoves}
use Rattle.remount.specs.Moving.{CanRepairBy, EmptiesTorn, KeepsShut, SettlesOthers, Source, move_count, moves_before, usage_with}
use Rattle.remount.specs.Resets.{CanBeFilled, FinishesNeeded, KeepsGoing, KeepsWritten, OpensNoZone, finished_if_active}
use Rattle.remount.specs.TornRepair.{RepairsBeside}
use Rattle.drive_survey.specs.Reported.{KeepsZones}
use Rattle.zone_choice.proofs.OpenLaws.{closing-opens}
use Rattle.drive_survey.proofs.ReadLaws.{kept-contents}
use Rattle.remount.proofs.BeginLaws.{IsPrepared}
use Rattle.remount.proofs.CallLaws.{shut-count, shut-logs}
use Rattle.remount.proofs.NoteLaws.{logs-emptied, there-into, there-other}
use Rattle.remount.proofs.StepLaws.{Empties, carried-others}
use Rattle.remount.proofs.TornRepairLaws.{are-moves}

-- ---- logs by their zones

logs-count : (drive : DriveState) → length (drive_logs drive) ≡ length drive.zones
logs-count drive = length-map (contents drive.zones) (zone_log drive.geometry) ∙ length-map drive.zones content_of

-- a zone with a batch is one of the zones
has-batch : (drive : DriveState) (zone : ℕ) → log_at (drive_logs drive) zone ≢ [] → zone < length drive.zones
has-batch drive zone some = elim (cases_lt zone (length drive.zones)) as (λ _. zone < length drive.zones) [
  | inl lt ↦ lt
  | inr past ↦ absurd (some (get_or_past (drive_logs drive) zone [] (omega (arith, past, logs-count drive))))
]

-- ---- the repair of a torn zone

usage-full : (capacity size : ℕ) → usage_with capacity size ≡ full → size ≡ capacity
usage-full capacity zero is = absurd (let bad : empty ≡ full = is in cc)
usage-full capacity (suc size) is = at (eqb (suc size) capacity) refl is
  where
    at : (b : Bool) → eqb (suc size) capacity ≡ b → cond b full active ≡ full → suc size ≡ capacity
    at true e is = eqb-true (suc size) capacity e
    at false e is = absurd (let bad : active ≡ full = is in cc)

made-some : (made : List Batch) → 1 ≤ log_size made → made ≢ []
made-some made some none = absurd (let zero_size : log_size made ≡ 0 = rw none refl in omega (arith, some, zero_size))

-- a repair finishes the other active zones, and puts its Moves into the zone of the plan
pub beside-into : (n : ℕ) (old one start new : DriveState) (survey : Survey) (source : Source) (plan : MovePlan) (torn into : ℕ) → IsPrepared n start survey torn into → plan.torn ≡ torn → plan.into ≡ into → KeepsMountable n old one → SettlesOthers old one torn → KeepsShut one start
    → CanRepairBy start.geometry n (drive_logs start) source plan → EmptiesTorn n start new plan (moves_before source plan (move_count plan)) → (b : RepairsBeside old new torn) × (b.into ≡ plan.into)
beside-into n old one start new survey source plan torn into p torn_is into_is kept settles shut can e = subst (λ (t : ℕ). (b : RepairsBeside old new t) × (b.into ≡ plan.into)) torn_is (
  record {
    into = plan.into;
    vacant = rw (into_is, ← logs) vacant;
    others = others;
    still = still;
    some = λ none. made-some made e.some (sym has ∙ none);
    few = rw (has, ← geometry) (are-moves start.geometry n (drive_logs start) source plan (omega (arith, can.most, positive-most start.geometry e.range)) can).few;
    filled = λ is. ap (λ (c : Content). length c.blocks) there ∙ e.written ∙ usage-full start.geometry.capacity (log_size made) (sym e.usage ∙ ap (λ (c : Content). c.usage) (sym there) ∙ is) ∙ ap (λ (g : Geometry). g.capacity) geometry;
    opens = λ zone ne h. e.opens zone ne (shut.opens zone (settles.opens zone h));
  },
  refl,
)
  where
    made : List Batch
    made = moves_before source plan (move_count plan)

    geometry : start.geometry ≡ old.geometry
    geometry = shut.geometry ∙ kept.geometry

    logs : drive_logs start ≡ drive_logs old
    logs = shut-logs one start shut ∙ settles.logs

    vacant : IsVacant (drive_logs start) into
    vacant = log_at-zone start.geometry (contents start.zones) into ∙ ap (zone_log start.geometry) p.there ∙ emptied-nothing start.geometry

    long : length one.zones ≡ length old.zones
    long = sym (logs-count one) ∙ ap length settles.logs ∙ logs-count old

    started : length start.zones ≡ length one.zones
    started = shut-count one start shut.contents_are

    new-long : length new.zones ≡ length start.zones
    new-long = omega (arith, ap length e.zones, length-set (set (contents start.zones) plan.into e.there) plan.torn (record { usage = empty; blocks = [] }), length-set (contents start.zones) plan.into e.there, length-map new.zones content_of, length-map start.zones content_of)

    in_range : plan.into < length start.zones
    in_range = omega (arith, p.in_range, into_is)

    there : content_at (contents new.zones) plan.into ≡ e.there
    there = there-into n start new plan made e (omega (arith, in_range, new-long))

    has : log_at (drive_logs new) plan.into ≡ made
    has =
        ap (λ (ls : List (List Batch)). log_at ls plan.into) (logs-emptied n start new plan made e)
        ∙ get_or-set_other (set (drive_logs start) plan.into made) plan.torn plan.into [] [] e.apart
        ∙ get_or-set_same (drive_logs start) plan.into made [] (omega (arith, in_range, logs-count start))

    others : (zone : ℕ) → zone < length old.zones → zone ≢ plan.torn → zone ≢ plan.into → content_at (contents new.zones) zone ≡ finished_if_active (content_at (contents old.zones) zone)
    others zone lt ne other =
        there-other n start new plan made zone e ne other
        ∙ ap (λ (cs : List Content). content_at cs zone) shut.contents_are
        ∙ settles.others zone (omega (arith, lt, long)) (λ same. ne (same ∙ sym torn_is))

    still : (zone : ℕ) → zone ≢ plan.into → IsVacant (drive_logs old) zone → IsVacant (drive_logs new) zone
    still zone other none =
        let own : log_at (set (drive_logs start) plan.into made) zone ≡ [] = get_or-set_other (drive_logs start) plan.into zone made [] other ∙ ap (λ (ls : List (List Batch)). log_at ls zone) logs ∙ none in
        ap (λ (ls : List (List Batch)). log_at ls zone) (logs-emptied n start new plan made e) ∙ put (set (drive_logs start) plan.into made) plan.torn zone own
      where
        put : (ls : List (List Batch)) (i k : ℕ) → log_at ls k ≡ [] → log_at (set ls i []) k ≡ []
        put [] i k is = is
        put (l ∷ ls) zero zero is = refl
        put (l ∷ ls) zero (suc k) is = is
        put (l ∷ ls) (suc i) zero is = is
        put (l ∷ ls) (suc i) (suc k) is = put ls i k is

-- a repair finishes the other active zones, and opens none except for the zone of its Moves
pub beside-repaired : (n : ℕ) (old one start new : DriveState) (survey : Survey) (source : Source) (plan : MovePlan) (torn into : ℕ) → IsPrepared n start survey torn into → plan.torn ≡ torn → plan.into ≡ into → KeepsMountable n old one → SettlesOthers old one torn → KeepsShut one start
    → CanRepairBy start.geometry n (drive_logs start) source plan → EmptiesTorn n start new plan (moves_before source plan (move_count plan)) → RepairsBeside old new torn
beside-repaired n old one start new survey source plan torn into p torn_is into_is kept settles shut can e = (beside-into n old one start new survey source plan torn into p torn_is into_is kept settles shut can e).0

-- ---- all steps

-- what is finished is not partly written
finished-inactive : (c : Content) → is_partly_written (finished_if_active c) ≡ true → ⊥
finished-inactive c is = by (is_active_usage c.usage) refl is
  where
    by : (b : Bool) → is_active_usage c.usage ≡ b → is_partly_written (cond b (finished c) c) ≡ true → ⊥
    by true e partly = absurd (let bad : false ≡ true = partly in cc)
    by false e partly = absurd (let bad : false ≡ true = ap (λ (x : Bool). x && not (length c.blocks == 0)) (sym e) ∙ partly in cc)

stays-finished : (third new : DriveState) (zone : ℕ) (c : Content) → KeepsGoing third new → content_at (contents third.zones) zone ≡ finished_if_active c → content_at (contents new.zones) zone ≡ finished_if_active c
stays-finished third new zone c going is = going zone (λ partly. absurd (finished-inactive c (rw is at partly))) ∙ is

-- the zone of the Moves is finished only if it has no room
moves-need : (middle third new : DriveState) (torn : ℕ) → (b : RepairsBeside middle third torn) → third.geometry ≡ middle.geometry → new.geometry ≡ middle.geometry → FinishesNeeded third new
    → (content_at (contents new.zones) b.into).usage ≡ full → new.geometry.capacity < length (content_at (contents new.zones) b.into).blocks + 2
moves-need middle third new torn b third_is new_is needed is = at (cases_lt middle.geometry.capacity (length (content_at (contents third.zones) b.into).blocks + 2))
  where
    capacity : new.geometry.capacity ≡ middle.geometry.capacity
    capacity = ap (λ (g : Geometry). g.capacity) new_is

    blocks : length (content_at (contents new.zones) b.into).blocks ≡ length (content_at (contents third.zones) b.into).blocks
    blocks = ap length (needed.blocks b.into)

    at : (middle.geometry.capacity < length (content_at (contents third.zones) b.into).blocks + 2) ⊎ (length (content_at (contents third.zones) b.into).blocks + 2 ≤ middle.geometry.capacity) → new.geometry.capacity < length (content_at (contents new.zones) b.into).blocks + 2
    at (inl few) = omega (arith, few, capacity, blocks)
    at (inr room) =
        let goes : CanBeFilled third b.into = λ partly. (omega (arith, room, ap (λ (g : Geometry). g.capacity) third_is), subst (λ (g : Geometry). AllByRecursion (HasAtMost (batch_most g)) (log_at (drive_logs third) b.into)) (sym third_is) b.few) in
        let same : content_at (contents new.zones) b.into ≡ content_at (contents third.zones) b.into = needed.going b.into goes in
        absurd (omega (arith, room, b.filled (ap (λ (c : Content). c.usage) (sym same) ∙ is)))

-- emptying, repairing and finishing zones in turn finishes and opens them only by need
pub carried-zones : (old middle third new : DriveState) (n : ℕ) (resets : List ℕ) (plan : Option Repair) (survey : Survey) → Empties old middle n resets survey → PlansRepair old.geometry n (cleared (drive_logs old) resets) (zone_tails (contents old.zones)) plan
    → KeepsWritten old middle → OpensNoZone old middle → LeavesBeside middle plan third → third.geometry ≡ middle.geometry → new.geometry ≡ middle.geometry → drive_logs new ≡ drive_logs third → FinishesNeeded third new → FinishesByNeed old resets new
carried-zones old middle third new n resets None survey is none written opens same third_is new_is logs needed = record {
  others = carried-others old middle third new n resets None survey is none written (λ e. same) needed.going;
  beside = λ torn is_torn zone some ne. absurd (none torn is_torn);
  moves = λ zone took full_is. absurd (took.1 (left zone took.0));
  opens = λ zone h. inl (needed.opens zone (subst (λ (d : DriveState). IsShut d.zones zone) (sym same) (opens zone h)));
}
  where
    left : (zone : ℕ) → IsVacant (cleared (drive_logs old) resets) zone → log_at (drive_logs new) zone ≡ []
    left zone vacant = ap (λ (ls : List (List Batch)). log_at ls zone) (logs ∙ ap drive_logs same ∙ is.logs) ∙ vacant
carried-zones old middle third new n resets (Some repair) survey is planned written opens b third_is new_is logs needed = record {
  others = λ none. absurd (none repair.zone planned.torn.torn);
  beside = beside;
  moves = λ zone took full_is. by-into zone took full_is;
  opens = λ zone h. elim (cases_eq zone b.into) as (λ _. IsShut new.zones zone ⊎ TookMoves old resets new zone) [
    | inl same ↦ inr (rw (same, ← is.logs) b.vacant, λ gone. b.some (ap (λ (ls : List (List Batch)). log_at ls b.into) (sym logs) ∙ ap (log_at (drive_logs new)) (sym same) ∙ gone))
    | inr other ↦ inl (needed.opens zone (b.opens zone other (opens zone h)))
  ];
}
  where
    middle-log : (zone : ℕ) → log_at (cleared (drive_logs old) resets) zone ≡ log_at (drive_logs middle) zone
    middle-log zone = ap (λ (ls : List (List Batch)). log_at ls zone) (sym is.logs)

    beside : FinishesBeside old resets new
    beside torn is_torn zone some ne =
        let here : log_at (drive_logs middle) zone ≢ [] = λ gone. some (middle-log zone ∙ gone) in
        let other : zone ≢ b.into = λ same. here (ap (log_at (drive_logs middle)) same ∙ b.vacant) in
        let apart : zone ≢ repair.zone = λ same. ne (same ∙ sym (planned.torn.only torn is_torn)) in
        stays-finished third new zone (content_at (contents old.zones) zone) needed.going (b.others zone (has-batch middle zone here) apart other ∙ ap finished_if_active (written zone here))

    by-into : (zone : ℕ) → TookMoves old resets new zone → (content_at (contents new.zones) zone).usage ≡ full → new.geometry.capacity < length (content_at (contents new.zones) zone).blocks + 2
    by-into zone took full_is = elim (cases_eq zone b.into) as (λ _. new.geometry.capacity < length (content_at (contents new.zones) zone).blocks + 2) [
      | inl same ↦ rw same (moves-need middle third new repair.zone b third_is new_is needed (rw same at full_is))
      | inr other ↦ absurd (took.1 (ap (λ (ls : List (List Batch)). log_at ls zone) logs ∙ b.still zone other (sym (middle-log zone) ∙ took.0)))
    ]

-- a report and Reads before change nothing of it
pub needed-since : (old first new : DriveState) (resets : List ℕ) → KeepsZones old first → FinishesByNeed first resets new → FinishesByNeed old resets new
needed-since old first new resets k f = record {
  others = rw (logs, contents_are, geometry) at f.others;
  beside = rw (logs, contents_are) at f.beside;
  moves = λ zone took. f.moves zone (subst (λ (ls : List (List Batch)). IsVacant (cleared ls resets) zone) (sym logs) took.0, took.1);
  opens = λ zone h. elim (f.opens zone (closing-opens old.zones first.zones k.closing zone h)) as (λ _. IsShut new.zones zone ⊎ TookMoves old resets new zone) [
    | inl shut ↦ inl shut
    | inr took ↦ inr (subst (λ (ls : List (List Batch)). IsVacant (cleared ls resets) zone) logs took.0, took.1)
  ];
}
  where
    geometry : first.geometry ≡ old.geometry
    geometry = k.geometry

    contents_are : contents first.zones ≡ contents old.zones
    contents_are = kept-contents old first k

    logs : drive_logs first ≡ drive_logs old
    logs = rw (geometry, contents_are) refl
