-- What the Moves of a repair are, and which logs the whole repair leaves.
use Rattle.std.proofs.Common.{◌≡◌, ◌≢◌, ◌⊎◌, ℕ, zero, suc, ◌+◌, ◌*◌, ◌<◌, ◌≤◌, List, [], ◌∷◌, ◌++◌, length, map, take, None, Some, refl, sym, ap, subst, ◌∙◌, arith, append-nil, Bool, true, false, cond, eqb}
use Rattle.std.specs.Prelude.{nat_eq, slice_get, slice_index_or, slice_set, Contains}
use Rattle.std.specs.List.{AllByRecursion, IsDistinct, range_with_len}
use Rattle.std.proofs.lemmas.List.{length-append, length-map, map-append}
use Rattle.std.proofs.lemmas.List.Concat.{flat_map-append}
use Rattle.std.proofs.Math.Nat.{add-mul}
use Rattle.nvme_wire.specs.declared.zone_state.ZoneState.TheVariants as states
use Rattle.zone_states.specs.declared.geometry.Geometry.{Geometry}
use Rattle.drive_port.specs.Contents.{content_of, contents}
use Rattle.drive_port.specs.Drive.{DriveState}
use Rattle.batch_log.specs.declared.header.Entry.{Entry}
use Rattle.batch_log.specs.Log.{Batch}
use Rattle.logical_map.specs.declared.place.Place.TheVariants as places
use Rattle.drive_array.specs.ZoneLogs.{drive_logs, log_at, zone_log}
use Rattle.drive_array.specs.Records.{Record, batch_records, newest, records, without}
use Rattle.drive_array.specs.Repair.{HasAtMost}
use Rattle.drive_array.specs.Repairing.{IsCopyFrom}
use Rattle.drive_array.specs.Sizes.{log_greatest}
use Rattle.drive_array.specs.Spare.{IsMoveFrom, IsVacant}
use Rattle.drive_array.proofs.AllLaws.{all-append}
use Rattle.drive_array.proofs.ReserveLaws.{positive-most}
use Rattle.drive_array.proofs.ZoneLogLaws.{log_at-zone}
use Rattle.drive_array.proofs.RepairingMounts.{emptied-nothing}
use Rattle.remount.specs.declared.repair.moves.MovePlan.{MovePlan}
use Rattle.drive_survey.specs.declared.reported.ReportedZone.{ReportedZone}
use Rattle.drive_survey.specs.declared.survey.Survey.{Survey}
use Rattle.remount.specs.Moving.{CanRepairBy, EmptiesTorn, Source, move_by, move_count, moves_before, named_by, placed_entry}
use Rattle.remount.specs.TornRepair.{AreRepairMoves, HoldsSize, RepairsTorn, RepeatLive, all_blocks_named}
use Rattle.remount.proofs.BeginLaws.{IsPrepared}
use Rattle.remount.proofs.CallLaws.{in-get}
use Rattle.remount.proofs.MovePlanLaws.{blocks-moved, few-named, repair-move, size-either}
use Rattle.remount.proofs.NoteLaws.{logs-emptied}
use Rattle.remount.proofs.SettleLaws.{all-there, says-size, take-plus}

-- ---- the Moves

moves-from : (source : Source) (plan : MovePlan) (k : ℕ) → AllByRecursion (IsMoveFrom plan.torn) (moves_before source plan k)
moves-from source plan zero = tt
moves-from source plan (suc k) = all-append (IsMoveFrom plan.torn) (moves_before source plan k) (move_by source plan k ∷ []) (moves-from source plan k) ((refl, refl), tt)

few-entries : (source : Source) (plan : MovePlan) (k : ℕ) → HasAtMost plan.most (move_by source plan k)
few-entries source plan k = omega (arith, few-named plan k, length-map (named_by plan k) (λ x. placed_entry x (slice_index_or source.places x places.None)))

moves-few : (source : Source) (plan : MovePlan) (k : ℕ) → AllByRecursion (HasAtMost plan.most) (moves_before source plan k)
moves-few source plan zero = tt
moves-few source plan (suc k) = all-append (HasAtMost plan.most) (moves_before source plan k) (move_by source plan k ∷ []) (moves-few source plan k) (few-entries source plan k, tt)

moves-count : (source : Source) (plan : MovePlan) (k : ℕ) → length (moves_before source plan k) ≡ k
moves-count source plan zero = refl
moves-count source plan (suc k) = omega (arith, length-append (moves_before source plan k) (move_by source plan k ∷ []), moves-count source plan k)

range-more : (a n : ℕ) → range_with_len a (suc n) ≡ range_with_len a n ++ (a + n) ∷ []
range-more a zero = let same : a + 0 ≡ a = omega arith in rw same refl
range-more a (suc n) = let same : a + suc n ≡ (a + 1) + n = omega arith in rw same (ap (λ (xs : List ℕ). a ∷ xs) (range-more (a + 1) n))

moves-numbers : (source : Source) (plan : MovePlan) (k : ℕ) → map (λ (batch : Batch). batch.heading.sequence) (moves_before source plan k) ≡ range_with_len plan.next k
moves-numbers source plan zero = refl
moves-numbers source plan (suc k) =
    map-append (λ (batch : Batch). batch.heading.sequence) (moves_before source plan k) (move_by source plan k ∷ [])
    ∙ ap (λ (xs : List ℕ). xs ++ (plan.next + k) ∷ []) (moves-numbers source plan k)
    ∙ sym (range-more plan.next k)

moves-sizes : (geometry : Geometry) (n : ℕ) (logs : List (List Batch)) (source : Source) (plan : MovePlan) (k : ℕ) → CanRepairBy geometry n logs source plan
    → AllByRecursion (λ (batch : Batch). (batch.heading.size ≡ log_greatest (log_at logs plan.torn)) ⊎ (batch.heading.size ≡ None)) (moves_before source plan k)
moves-sizes geometry n logs source plan zero can = tt
moves-sizes geometry n logs source plan (suc k) can =
    all-append (λ (batch : Batch). (batch.heading.size ≡ log_greatest (log_at logs plan.torn)) ⊎ (batch.heading.size ≡ None)) (moves_before source plan k) (move_by source plan k ∷ [])
    (moves-sizes geometry n logs source plan k can) (size-either geometry n logs source plan k can, tt)

moves-said : (geometry : Geometry) (n : ℕ) (logs : List (List Batch)) (source : Source) (plan : MovePlan) (k : ℕ) → CanRepairBy geometry n logs source plan → (HoldsSize n logs plan.torn → ⊥)
    → AllByRecursion (λ (batch : Batch). batch.heading.size ≡ log_greatest (log_at logs plan.torn)) (moves_before source plan k)
moves-said geometry n logs source plan zero can other = tt
moves-said geometry n logs source plan (suc k) can other =
    all-append (λ (batch : Batch). batch.heading.size ≡ log_greatest (log_at logs plan.torn)) (moves_before source plan k) (move_by source plan k ∷ [])
    (moves-said geometry n logs source plan k can other) (said (eqb (k + 1) (move_count plan)) ∙ can.size, tt)
  where
    said : (b : Bool) → cond b plan.size plan.early ≡ plan.size
    said true = refl
    said false = can.said other

-- ---- what they name

blocks-made : (source : Source) (plan : MovePlan) (k : ℕ) → all_blocks_named (moves_before source plan k) ≡ take (k * plan.most) plan.blocks.items
blocks-made source plan zero = let none : 0 * plan.most ≡ 0 = omega arith in rw none refl
blocks-made source plan (suc k) =
    let own : List ℕ = map (λ (e : Entry). e.block) (move_by source plan k).heading.entries in
    let more : suc k * plan.most ≡ k * plan.most + plan.most = omega (arith, add-mul k 1 plan.most) in
    flat_map-append (λ (b : Batch). map (λ (e : Entry). e.block) b.heading.entries) (moves_before source plan k) (move_by source plan k ∷ [])
    ∙ ap (λ (xs : List ℕ). all_blocks_named (moves_before source plan k) ++ xs) (append-nil own ∙ blocks-moved source.places (named_by plan k))
    ∙ ap (λ (xs : List ℕ). xs ++ named_by plan k) (blocks-made source plan k)
    ∙ sym (take-plus (k * plan.most) plan.most plan.blocks.items)
    ∙ ap (λ (i : ℕ). take i plan.blocks.items) (sym more)

copies-made : (geometry : Geometry) (n : ℕ) (logs : List (List Batch)) (source : Source) (plan : MovePlan) (k : ℕ) → k ≤ move_count plan → CanRepairBy geometry n logs source plan
    → AllByRecursion (λ (batch : Batch). AllByRecursion (λ (r : Record). IsCopyFrom plan.torn (newest r.block (records 0 logs)) r) (batch_records 0 0 batch)) (moves_before source plan k)
copies-made geometry n logs source plan zero le can = tt
copies-made geometry n logs source plan (suc k) le can =
    all-append (λ (batch : Batch). AllByRecursion (λ (r : Record). IsCopyFrom plan.torn (newest r.block (records 0 logs)) r) (batch_records 0 0 batch)) (moves_before source plan k) (move_by source plan k ∷ [])
    (copies-made geometry n logs source plan k (omega (arith, le)) can) ((repair-move geometry n k logs source plan can (omega (arith, le))).copies, tt)

live-made : (geometry : Geometry) (n : ℕ) (logs : List (List Batch)) (source : Source) (plan : MovePlan) → 1 ≤ plan.most → CanRepairBy geometry n logs source plan → RepeatLive logs plan.torn (moves_before source plan (move_count plan))
live-made geometry n logs source plan some can =
    let named : all_blocks_named (moves_before source plan (move_count plan)) ≡ plan.blocks.items = blocks-made source plan (move_count plan) ∙ all-there plan some in
    record {
      all = λ block lies. subst (λ (blocks : List ℕ). Contains blocks block) (sym named) (can.all block lies);
      once = subst (IsDistinct nat_eq) (sym named) can.distinct;
      copies = copies-made geometry n logs source plan (move_count plan) (omega arith) can;
    }

-- all Moves of a plan together are the Moves of a repair
pub are-moves : (geometry : Geometry) (n : ℕ) (logs : List (List Batch)) (source : Source) (plan : MovePlan) → 1 ≤ plan.most → CanRepairBy geometry n logs source plan → AreRepairMoves geometry n logs plan.torn (moves_before source plan (move_count plan))
are-moves geometry n logs source plan some can =
    let count = moves-count source plan (move_count plan) in
    record {
      from = moves-from source plan (move_count plan);
      live = live-made geometry n logs source plan some can;
      few = subst (λ (most : ℕ). AllByRecursion (HasAtMost most) (moves_before source plan (move_count plan))) can.most (moves-few source plan (move_count plan));
      count = count ∙ can.count;
      numbers = moves-numbers source plan (move_count plan) ∙ ap (λ (a : ℕ). range_with_len a (move_count plan)) can.next ∙ ap (range_with_len _) (sym count);
      size = says-size geometry n logs source plan (move_count plan) can refl (omega arith);
      said = moves-said geometry n logs source plan (move_count plan) can;
      sizes = moves-sizes geometry n logs source plan (move_count plan) can;
    }

-- ---- the logs

-- no zone below a limit was reported Empty
abbrev pub NoneEmptyBelow : List ReportedZone → ℕ → Type 0
NoneEmptyBelow reported limit = (other : ℕ) (r : ReportedZone) → other < limit → slice_get reported other ≡ Some r → r.state ≢ states.Empty

none-vacant : (n : ℕ) (drive : DriveState) (survey : Survey) (torn into : ℕ) → IsPrepared n drive survey torn into → NoneEmptyBelow survey.zones.items into → (zone : ℕ) → zone < into → IsVacant (drive_logs drive) zone → ⊥
none-vacant n drive survey torn into p none zone lt vacant =
    let there = in-get survey.zones.items zone (record { state = states.Empty; blocks = 0 }) (omega (arith, lt, p.in_range, p.known.zones.count)) in
    none zone there.0 lt there.1 (p.vacant zone there.0 there.1 vacant)

-- a repair moves what is live to the lowest vacant zone, and empties the torn one
pub torn-repaired : (n : ℕ) (start new : DriveState) (survey : Survey) (source : Source) (plan : MovePlan) (torn into : ℕ) → IsPrepared n start survey torn into → plan.torn ≡ torn → plan.into ≡ into → NoneEmptyBelow survey.zones.items into
    → CanRepairBy start.geometry n (drive_logs start) source plan → EmptiesTorn n start new plan (moves_before source plan (move_count plan)) → RepairsTorn start.geometry n (drive_logs start) torn (drive_logs new)
torn-repaired n start new survey source plan torn into p torn_is into_is none can e = record {
  into = into;
  in_range = omega (arith, p.in_range, length-map (contents start.zones) (zone_log start.geometry), length-map start.zones content_of);
  vacant = log_at-zone start.geometry (contents start.zones) into ∙ ap (zone_log start.geometry) p.there ∙ emptied-nothing start.geometry;
  lowest = none-vacant n start survey torn into p none;
  made = moves_before source plan (move_count plan);
  are = subst (λ (z : ℕ). AreRepairMoves start.geometry n (drive_logs start) z (moves_before source plan (move_count plan))) torn_is (are-moves start.geometry n (drive_logs start) source plan (omega (arith, can.most, positive-most start.geometry e.range)) can);
  logs_are = logs-emptied n start new plan (moves_before source plan (move_count plan)) e
      ∙ ap (λ (z : ℕ). without (slice_set (drive_logs start) z (moves_before source plan (move_count plan))) plan.torn) into_is
      ∙ ap (λ (z : ℕ). without (slice_set (drive_logs start) into (moves_before source plan (move_count plan))) z) torn_is;
}

-- a repair stays one with an equal geometry and equal logs
pub repaired-since : (n torn : ℕ) (g h : Geometry) (start old new : List (List Batch)) → g ≡ h → start ≡ old → RepairsTorn g n start torn new → RepairsTorn h n old torn new
repaired-since n torn g h start old new shape same is = subst (λ (x : Geometry). RepairsTorn x n old torn new) shape (subst (λ (logs : List (List Batch)). RepairsTorn g n logs torn new) same is)
