-- After the last Move the torn zone is emptied.
use Rattle.std.proofs.Common.{◌≡◌, ◌≢◌, ◌⊎◌, inl, inr, ℕ, zero, suc, ◌+◌, ◌*◌, ◌<◌, ◌≤◌, true, false, List, [], ◌∷◌, ◌++◌, length, take, drop, set, Option, None, Ok, Err, refl, sym, ap, ◌∙◌, arith}
use Rattle.std.specs.Prelude.{Contains}
use Rattle.std.specs.Int.{div_ceil}
use Rattle.std.specs.List.{AllByRecursion}
use Rattle.std.proofs.lemmas.Bool.{cases_eq, cases_lt, eq-eqb}
use Rattle.std.proofs.lemmas.List.{get_or_past, length-map, take_all}
use Rattle.std.proofs.lemmas.Nat.{mul-le}
use Rattle.std.proofs.Math.Nat.{add-mul}
use Rattle.zone_states.specs.declared.geometry.Geometry.{Geometry}
use Rattle.drive_port.specs.Calls.{IsNotRefused, Obeys, ResetContents, ResetKeeps, ResetLeaves, ResetZone}
use Rattle.drive_port.specs.Contents.{Content, Resets, SameContents, content_at, content_of, contents, emptied, is_usable}
use Rattle.drive_port.specs.Drive.{DriveState, IsLawful}
use Rattle.drive_port.specs.declared.calls.PortFault.{PortFault}
use Rattle.drive_port.specs.declared.calls.PortFault.TheVariants as port
use Rattle.batch_log.specs.declared.header.Entry.{Entry}
use Rattle.batch_log.specs.Log.{Batch, log_size, one_unless}
use Rattle.drive_array.specs.ZoneLogs.{drive_logs, has_torn_tail, log_at, encoded, encoded_array, zone_log, zone_logs, zone_tails}
use Rattle.drive_array.specs.Laws.{OnlyTorn}
use Rattle.drive_array.specs.Mountable.{IsMountable}
use Rattle.drive_array.specs.Records.{IsNewest, Record, batch_records, entry_records, log_records, newest}
use Rattle.drive_array.specs.Repairing.{IsWithin}
use Rattle.drive_array.specs.Sizes.{larger, log_greatest}
use Rattle.drive_array.specs.Spare.{IsSpare}
use Rattle.zone_choice.specs.Tables.{TablesView}
use Rattle.drive_array.proofs.AllLaws.{all-append, all-at, all-parts}
use Rattle.drive_array.proofs.MountLaws.{spare_resets}
use Rattle.drive_array.proofs.NewestLaws.{log_records-append, newest-is}
use Rattle.zone_choice.proofs.OpenLaws.{reset-opens}
use Rattle.drive_array.proofs.RepairingEnds.{repair_ends}
use Rattle.drive_array.proofs.RepairingMounts.{made-there, repair_mounts}
use Rattle.drive_array.proofs.ReserveLaws.{div_ceil-enough}
use Rattle.drive_array.proofs.SizeLaws.{larger-assoc, log_greatest-more}
use Rattle.drive_array.proofs.ZoneLogLaws.{tail-at}
use Rattle.remount.specs.declared.repair.moves.MovePlan.{MovePlan}
use Rattle.drive_survey.specs.Heads.{HeadsView}
use Rattle.remount.specs.Kept.{KeepsMountable}
use Rattle.remount.specs.Moving.{CanRepairBy, EmptiesTorn, IsAtMove, IsMoving, Source, move_by, move_count, moves_before, named_by, size_by, source_of}
use Rattle.remount.proofs.CallLaws.{StartsAt, mountable-both, mountable-same, starts-at}
use Rattle.remount.proofs.MakingLaws.{at-most, count-before}
use Rattle.remount.proofs.MovingLaws.{moving-mounts, moving-known, moving-other, moving-small}
use Rattle.remount.proofs.MovePlanLaws.{named-blocks, size-either, within-by}

-- ---- all blocks are named

-- the first i + n elements are the first i, and the next n
pub take-plus : (i n : ℕ) (xs : List ℕ) → take (i + n) xs ≡ take i xs ++ take n (drop i xs)
take-plus zero n xs = let same : 0 + n ≡ n = omega arith in rw same refl
take-plus (suc i) n [] = let same : suc i + n ≡ suc (i + n) = omega arith in rw same (sym (none n))
  where
    none : (n : ℕ) → take {A = ℕ} n [] ≡ []
    none zero = refl
    none (suc n) = refl
take-plus (suc i) n (x ∷ xs) = let same : suc i + n ≡ suc (i + n) = omega arith in rw same (ap (λ (ys : List ℕ). x ∷ ys) (take-plus i n xs))

records-entries : (P : ℕ → Type 0) (s zone header k : ℕ) (body : List (List ℕ)) (es : List Entry) → AllByRecursion (λ (r : Record). P r.block) (entry_records s body zone header k es) → AllByRecursion (λ (e : Entry). P e.block) es
records-entries P s zone header k body [] all = tt
records-entries P s zone header k body (e ∷ es) all = (all.0, records-entries P s zone header (k + one_unless e.trim) body es all.1)

all-named-before : (P : ℕ → Type 0) (source : Source) (plan : MovePlan) (zone k : ℕ) → AllByRecursion (λ (r : Record). P r.block) (log_records zone 0 (moves_before source plan k)) → AllByRecursion P (take (k * plan.most) plan.blocks.items)
all-named-before P source plan zone zero all = let none : 0 * plan.most ≡ 0 = omega arith in rw none tt
all-named-before P source plan zone (suc k) all =
    let b = move_by source plan k in
    let moves = moves_before source plan k in
    let split = all-parts (λ (r : Record). P r.block) (log_records zone 0 moves) (batch_records zone (log_size moves) b) (rw (log_records-append zone 0 (log_size moves) moves b (omega arith)) at all) in
    let here : AllByRecursion P (named_by plan k) = named-blocks P source.places (named_by plan k) (records-entries P b.heading.sequence zone (log_size moves) 0 b.body b.heading.entries split.1) in
    let more : suc k * plan.most ≡ k * plan.most + plan.most = omega (arith, add-mul k 1 plan.most) in
    rw (more, take-plus (k * plan.most) plan.most plan.blocks.items) (all-append P (take (k * plan.most) plan.blocks.items) (named_by plan k) (all-named-before P source plan zone k split.0) here)

-- the Moves of a plan together take all of its blocks
pub all-there : (plan : MovePlan) → 1 ≤ plan.most → take (move_count plan * plan.most) plan.blocks.items ≡ plan.blocks.items
all-there plan some =
    let len = length plan.blocks.items in
    let enough = div_ceil-enough len plan.most (omega (arith, some)) in
    let le : div_ceil len plan.most * plan.most ≤ move_count plan * plan.most = mul-le (div_ceil len plan.most) plan.most (move_count plan) plan.most (omega arith) (omega arith) in
    take_all (move_count plan * plan.most) plan.blocks.items (omega (arith, enough, le))

-- after the last Move each block of the plan has a record among the Moves
all-moved : (source : Source) (plan : MovePlan) (zone block : ℕ) → 1 ≤ plan.most → Contains plan.blocks.items block → newest block (log_records zone 0 (moves_before source plan (move_count plan))) ≢ None
all-moved source plan zone block some there none =
    let rs = log_records zone 0 (moves_before source plan (move_count plan)) in
    let is : IsNewest rs block None = rw none at (newest-is block rs) in
    let all : AllByRecursion (λ b. b ≡ block → ⊥) plan.blocks.items = rw (all-there plan some) at (all-named-before (λ b. b ≡ block → ⊥) source plan zone (move_count plan) is) in
    all-at (λ b. b ≡ block → ⊥) plan.blocks.items there.0 block all there.1 there.2

-- ---- the last Move says the size

within-both : (m s t : Option ℕ) → IsWithin m t → IsWithin s t → IsWithin (larger m s) t
within-both m s t a b = sym (larger-assoc m s t) ∙ ap (larger m) b ∙ a

within-before : (geometry : Geometry) (n : ℕ) (logs : List (List Batch)) (source : Source) (plan : MovePlan) (k : ℕ) → CanRepairBy geometry n logs source plan → IsWithin (log_greatest (moves_before source plan k)) (log_greatest (log_at logs plan.torn))
within-before geometry n logs source plan zero can = refl
within-before geometry n logs source plan (suc k) can =
    rw (log_greatest-more (moves_before source plan k) (move_by source plan k))
    (within-both (log_greatest (moves_before source plan k)) (size_by plan k) (log_greatest (log_at logs plan.torn)) (within-before geometry n logs source plan k can) (within-by (size_by plan k) (log_greatest (log_at logs plan.torn)) (size-either geometry n logs source plan k can)))

-- all Moves together say the greatest size of the torn zone
pub says-size : (geometry : Geometry) (n : ℕ) (logs : List (List Batch)) (source : Source) (plan : MovePlan) (count : ℕ) → CanRepairBy geometry n logs source plan → move_count plan ≡ count → 1 ≤ count → log_greatest (moves_before source plan count) ≡ log_greatest (log_at logs plan.torn)
says-size geometry n logs source plan zero can is some = absurd (omega arith)
says-size geometry n logs source plan (suc k) can is some =
    let last : size_by plan k ≡ plan.size = rw (eq-eqb (k + 1) (move_count plan) (omega (arith, is))) refl in
    log_greatest-more (moves_before source plan k) (move_by source plan k) ∙ ap (larger (log_greatest (moves_before source plan k))) (last ∙ can.size) ∙ within-before geometry n logs source plan k can

-- ---- nothing is lost with the torn zone

-- after the last Move the array is the same without the torn zone
at-spare : (n : ℕ) (start now : DriveState) (tables : TablesView) (plan : MovePlan) (heads : HeadsView) → IsAtMove n start now tables plan (move_count plan) heads → IsSpare start.geometry.block n (zone_logs start.geometry (contents now.zones)) plan.torn
at-spare n start now tables plan heads a =
    let g = start.geometry in
    let source = source_of start tables plan.torn in
    let m = a.moving in
    repair_ends g n plan.torn plan.into (contents start.zones) (contents now.zones) (moving-small n start now plan.torn plan.into (moves_before source plan (move_count plan)) m) m.repair
    (λ block lies. rw m.log (all-moved source plan plan.into block (at-most n start now tables plan (move_count plan) heads a) (a.can.all block lies)))
    (rw m.log (says-size g n (drive_logs start) source plan (move_count plan) a.can refl (omega arith)))

-- no other zone is torn
at-only : (n : ℕ) (start now : DriveState) (torn into : ℕ) (made : List Batch) → IsMoving n start now torn into made → OnlyTorn start.geometry (contents now.zones) torn
at-only n start now torn into made m other is = at (cases_lt other (length (contents now.zones))) (cases_eq other into)
  where
    at : (other < length (contents now.zones)) ⊎ (length (contents now.zones) ≤ other) → (other ≡ into) ⊎ (other ≢ into) → other ≡ torn
    at (inr past) either = absurd (let none = get_or_past (zone_tails (contents now.zones)) other false (omega (arith, past, length-map (contents now.zones) has_torn_tail)) in let tail = is.tail in cc)
    at (inl lt) (inl same) = absurd (let tail = sym (tail-at (contents now.zones) other lt) ∙ is.tail in let bad : false ≡ true = rw (same, m.whole) at tail in cc)
    at (inl lt) (inr ne) =
        let same = moving-other n start now torn into made other m ne in
        let below : other < length (contents start.zones) = omega (arith, lt, length-map now.zones content_of, length-map start.zones content_of, m.count) in
        m.repair.only other (tail-at (contents start.zones) other below ∙ ap has_torn_tail (sym same) ∙ sym (tail-at (contents now.zones) other lt) ∙ is.tail)

-- ---- it is emptied

-- the drive is mountable, with the array that it had
pub record TornEmptied (n : ℕ) (start new : DriveState) : Type 0 where
  pub mountable : IsMountable new n
  pub array : encoded new n ≡ encoded start n

-- a Reset of the torn zone after the last Move leaves a mountable drive with its array
torn-emptied : (n : ℕ) (start now new : DriveState) (tables : TablesView) (plan : MovePlan) (heads : HeadsView) → IsAtMove n start now tables plan (move_count plan) heads → new.geometry ≡ start.geometry → IsLawful new → Resets (contents now.zones) (contents new.zones) plan.torn → TornEmptied n start new
unfolding encoded_array
torn-emptied n start now new tables plan heads a geometry lawful resets =
    let g = start.geometry in
    let made = moves_before (source_of start tables plan.torn) plan (move_count plan) in
    let m = a.moving in
    let small = moving-small n start now plan.torn plan.into made m in
    let keeps = repair_mounts g n plan.torn plan.into (contents start.zones) (contents now.zones) small m.repair (λ tail half. let bad : false ≡ true = sym m.whole ∙ tail in absurd (cc)) in
    let spare = at-spare n start now tables plan heads a in
    let reset = spare_resets g (contents now.zones) (contents new.zones) n plan.torn keeps.mountable spare (at-only n start now plan.torn plan.into made m) resets in
    record {
      mountable = record { lawful = lawful; holds = rw geometry reset.mountable };
      array = rw (geometry, reset.logs) (spare ∙ keeps.array);
    }

-- after the last Move a Reset of the torn zone, if not refused, keeps the drive mountable
pub emptied-mountable : (n : ℕ) (start now new : DriveState) (tables : TablesView) (plan : MovePlan) (heads : HeadsView) → IsAtMove n start now tables plan (move_count plan) heads → new.geometry ≡ now.geometry → IsLawful new → new.refused ≡ now.refused → new.durable ≡ now.durable → Resets (contents now.zones) (contents new.zones) plan.torn → KeepsMountable n start new
emptied-mountable n start now new tables plan heads a geometry lawful refused durable resets =
    let t = torn-emptied n start now new tables plan heads a (geometry ∙ a.moving.geometry) lawful resets in
    record { geometry = geometry ∙ a.moving.geometry; lawful = lawful; refused = refused ∙ a.moving.refused; durable = durable ∙ a.moving.durable; mountable = λ m. t.mountable; array = λ m. t.array }

-- the torn zone can be used, and starts at this address
pub record CanEmpty (now : DriveState) (torn start : ℕ) : Type 0 where
  pub at : StartsAt now torn start
  pub usable : is_usable (content_at (contents now.zones) torn).usage ≡ true

-- during the Moves the torn zone can be used, and starts at its address
pub can-empty : (n : ℕ) (start now : DriveState) (tables : TablesView) (plan : MovePlan) (k : ℕ) (heads : HeadsView) (address : ℕ) → IsAtMove n start now tables plan k heads → address ≡ plan.torn * now.geometry.size → CanEmpty now plan.torn address
can-empty n start now tables plan k heads address a is =
    let known = moving-known n start now plan.torn plan.into (moves_before (source_of start tables plan.torn) plan k) plan.reported a.moving a.known in
    record { at = starts-at now plan.torn address known.geometry known.lawful known.in_range is; usable = ap is_usable known.usage ∙ known.usable }

-- a Reset of the torn zone that halts leaves a drive that is mountable with its array
pub reset-halts : (n : ℕ) (start now new : DriveState) (tables : TablesView) (plan : MovePlan) (heads : HeadsView) (address : ℕ) (fault : PortFault) → IsAtMove n start now tables plan (move_count plan) heads → StartsAt now plan.torn address
    → ResetKeeps {V = Unit {0}} now address (Err fault) new → ResetLeaves {V = Unit {0}} now address (Err fault) new → Obeys {V = Unit {0}} now (Err fault) new → IsNotRefused {V = Unit {0}} (Err fault) → KeepsMountable n start new
reset-halts n start now new tables plan heads address (port.Refused status) a at kept leaves obeys passed = absurd passed
reset-halts n start now new tables plan heads address port.Memory a at kept leaves obeys passed =
    mountable-both n start now new (moving-mounts n start now plan.torn plan.into (moves_before (source_of start tables plan.torn) plan (move_count plan)) a.moving) (mountable-same n now new kept obeys.lawful (ap (λ (d : DriveState). d.refused) leaves) (ap (λ (d : DriveState). d.durable) leaves))
reset-halts n start now new tables plan heads address port.Failed a at kept leaves obeys passed =
    mountable-both n start now new (moving-mounts n start now plan.torn plan.into (moves_before (source_of start tables plan.torn) plan (move_count plan)) a.moving) (mountable-same n now new kept obeys.lawful (obeys.fails refl).1.refused obeys.durable)
reset-halts n start now new tables plan heads address port.Stopped a at kept leaves obeys passed = by kept
  where
    by : SameContents now new ⊎ ResetContents now new address → KeepsMountable n start new
    by (inl same) = mountable-both n start now new (moving-mounts n start now plan.torn plan.into (moves_before (source_of start tables plan.torn) plan (move_count plan)) a.moving) (mountable-same n now new same obeys.lawful (obeys.counts refl).refused obeys.durable)
    by (inr done) = emptied-mountable n start now new tables plan heads a obeys.geometry obeys.lawful (obeys.counts refl).refused obeys.durable (rw at.index at done.contents)

-- after the last Move a Reset empties the torn zone, and the Moves stay
pub reset-done : (n : ℕ) (start now new : DriveState) (tables : TablesView) (plan : MovePlan) (heads : HeadsView) (address : ℕ) → IsAtMove n start now tables plan (move_count plan) heads → StartsAt now plan.torn address
    → ResetZone now new address → ResetLeaves {V = Unit {0}} now address (Ok tt) new → Obeys {V = Unit {0}} now (Ok tt) new → EmptiesTorn n start new plan (moves_before (source_of start tables plan.torn) plan (move_count plan))
reset-done n start now new tables plan heads address a at done leaves obeys =
    let g = start.geometry in
    let source = source_of start tables plan.torn in
    let made = moves_before source plan (move_count plan) in
    let m = a.moving in
    let resets : Resets (contents now.zones) (contents new.zones) plan.torn = rw at.index at done.contents in
    let t = torn-emptied n start now new tables plan heads a (obeys.geometry ∙ m.geometry) obeys.lawful resets in
    let there = made-there g n plan.torn plan.into (contents start.zones) (contents now.zones) m.repair in
    record {
      range = m.range;
      geometry = obeys.geometry ∙ m.geometry;
      mountable = t.mountable;
      array = t.array;
      apart = m.repair.repairing.apart;
      there = m.repair.made;
      zones = resets.zones ∙ ap (λ (zones : List Content). set zones plan.torn emptied) m.repair.zones;
      log = ap (zone_log g) (sym there) ∙ m.log;
      written = ap (λ (c : Content). length c.blocks) (sym there) ∙ m.written;
      usage = ap (λ (c : Content). c.usage) (sym there) ∙ m.usage;
      whole = ap has_torn_tail (sym there) ∙ m.whole;
      some = omega (arith, count-before source plan (move_count plan));
      opens = λ zone ne h. reset-opens {V = Unit {0}} now new address (Ok tt) leaves zone (m.opens zone ne h);
    }
