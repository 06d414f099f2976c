-- The drive between two Moves of a repair.
use Rattle.std.proofs.Common.{◌≡◌, ◌≢◌, ◌⊎◌, inl, inr, ℕ, zero, suc, ◌+◌, ◌*◌, ◌<◌, ◌≤◌, ◌^◌, Bool, true, false, ◌||◌, eqb, List, [], ◌∷◌, ◌++◌, length, take, set, get_or, refl, sym, ap, ◌∙◌, arith}
use Rattle.std.specs.List.{AllByRecursion, list_any, remove}
use Rattle.std.proofs.lemmas.Bool.{cases_eq, cases_lt, eq-eqb, ne_eqb}
use Rattle.std.proofs.lemmas.List.{get_or-set_other, get_or-set_same, get_or_past, length-append, length-map, length-set, take_all}
use Rattle.nvme_wire.specs.declared.zone_state.ZoneState.{ZoneState}
use Rattle.nvme_wire.specs.declared.zone_state.ZoneState.TheVariants as states
use Rattle.zone_states.specs.declared.geometry.Geometry.{Geometry}
use Rattle.zone_states.specs.Transition.{is_active, is_open}
use Rattle.zone_states.specs.Zone.{Zone}
use Rattle.drive_port.specs.Calls.{CanAppend}
use Rattle.drive_port.specs.Contents.{Appends, Content, content_at, content_of, contents, filled, is_active_usage, is_writable, nothing, usage_of}
use Rattle.drive_port.specs.Drive.{DriveState, IsLawful, active_count, open_count}
use Rattle.drive_port.specs.Step.{nowhere, zone_at}
use Rattle.drive_port.proofs.ClosingLaws.{content_at-contents}
use Rattle.batch_log.specs.Header.{IsHeading}
use Rattle.batch_log.specs.Log.{Batch, IsBatch, batch_blocks, batch_size, log_size}
use Rattle.zone_choice.specs.declared.roles.Filling.{Filling}
use Rattle.drive_array.specs.ZoneLogs.{HasLog, drive_logs, has_torn_tail, log_at, zone_log, zone_logs}
use Rattle.drive_array.specs.Repairing.{AppendsMove, IsOnRepair, TearsMove}
use Rattle.zone_choice.specs.Roles.{is_at}
use Rattle.drive_array.specs.Spare.{IsHalfClean}
use Rattle.zone_choice.specs.Tables.{TablesView}
use Rattle.drive_array.proofs.AllLaws.{all-at}
use Rattle.zone_choice.proofs.CommandLaws.{count-others, count-remove, inactive-shut}
use Rattle.drive_array.proofs.CountLaws.{count-zero}
use Rattle.drive_array.proofs.AppendLaws.{log_size-append}
use Rattle.drive_array.proofs.RepairingEnds.{needed_stays}
use Rattle.drive_array.proofs.RepairingMounts.{into-below, logs-now, made-there, repair_mounts}
use Rattle.drive_array.proofs.RepairingMoves.{move_repairs, torn_move_repairs}
use Rattle.drive_array.proofs.ZoneLogLaws.{log_at-zone}
use Rattle.remount.specs.declared.repair.moves.MovePlan.{MovePlan}
use Rattle.drive_survey.specs.declared.reported.ReportedZone.{ReportedZone}
use Rattle.drive_survey.specs.Heads.{HeadsView, with_heading}
use Rattle.remount.specs.Kept.{KeepsMountable}
use Rattle.remount.specs.Moving.{IsAtMove, IsMoving, KeepsShut, TakesFirst, TakesSome, move_by, move_count, moves_before, source_of, usage_with}
use Rattle.drive_survey.specs.Reported.{IsKnown}
use Rattle.remount.proofs.CallLaws.{mountable-both, shut-count, starts-at}
use Rattle.remount.proofs.MovePlanLaws.{heads-more, move-batch, move-few, move-heading, move-room, repair-move}

-- ---- it can be mounted

-- unless the torn zone is half clean beside a torn tail
mounts-by : (n : ℕ) (start now : DriveState) (torn into : ℕ) → start.geometry.block < 2 ^ 32 → IsOnRepair start.geometry n (contents start.zones) (contents now.zones) torn into
    → (has_torn_tail (content_at (contents now.zones) into) ≡ true → IsHalfClean start.geometry.block n (zone_logs start.geometry (contents now.zones)) torn → ⊥)
    → now.geometry ≡ start.geometry → IsLawful now → now.refused ≡ start.refused → now.durable ≡ start.durable → KeepsMountable n start now
mounts-by n start now torn into small repair needed geometry lawful refused durable =
    let keeps = repair_mounts start.geometry n torn into (contents start.zones) (contents now.zones) small repair needed in
    record {
      geometry = geometry;
      lawful = lawful;
      refused = refused;
      durable = durable;
      mountable = λ m. record { lawful = lawful; holds = rw geometry keeps.mountable };
      array = λ m. rw geometry keeps.array;
    }

-- during a repair a block has fewer than 2 ^ 32 bytes
pub moving-small : (n : ℕ) (start now : DriveState) (torn into : ℕ) (made : List Batch) → IsMoving n start now torn into made → start.geometry.block < 2 ^ 32
moving-small n start now torn into made m = let small = m.lawful.geometry.block in omega (arith, small, ap (λ (g : Geometry). g.block) m.geometry)

-- between two Moves a drive is mountable, with the array that it had at the start
pub moving-mounts : (n : ℕ) (start now : DriveState) (torn into : ℕ) (made : List Batch) → IsMoving n start now torn into made → KeepsMountable n start now
moving-mounts n start now torn into made m =
    mounts-by n start now torn into (moving-small n start now torn into made m) m.repair (λ tail half. let bad : false ≡ true = sym m.whole ∙ tail in absurd (cc)) m.geometry m.lawful m.refused m.durable

-- if no zone is opened, and the contents stay
moving-kept : (n : ℕ) (start now next : DriveState) (torn into : ℕ) (made : List Batch) → KeepsShut now next → IsMoving n start now torn into made → IsMoving n start next torn into made
moving-kept n start now next torn into made k m =
    let same = k.contents_are in
    record {
      range = m.range;
      geometry = k.geometry ∙ m.geometry;
      lawful = k.lawful;
      refused = k.refused ∙ m.refused;
      durable = k.durable ∙ m.durable;
      count = shut-count now next same ∙ m.count;
      repair = rw same m.repair;
      log = rw same m.log;
      written = rw same m.written;
      usage = rw same m.usage;
      whole = rw same m.whole;
      opens = λ zone ne h. k.opens zone (m.opens zone ne h);
      settled = m.settled;
      shut = m.shut;
    }

-- the other zones hold what they held
pub moving-other : (n : ℕ) (start now : DriveState) (torn into : ℕ) (made : List Batch) (zone : ℕ) → IsMoving n start now torn into made → zone ≢ into → content_at (contents now.zones) zone ≡ content_at (contents start.zones) zone
moving-other n start now torn into made zone m ne = rw m.repair.zones (get_or-set_other (contents start.zones) into zone m.repair.made nothing ne)

-- the torn zone is not the zone of the Moves
torn-apart : (n : ℕ) (start now : DriveState) (torn into : ℕ) (made : List Batch) → IsMoving n start now torn into made → torn ≢ into
torn-apart n start now torn into made m = λ same. m.repair.repairing.apart (sym same)

-- the zone of the Moves is one of the zones
into-in : (n : ℕ) (start now : DriveState) (torn into : ℕ) (made : List Batch) → IsMoving n start now torn into made → into < length now.zones
into-in n start now torn into made m = omega (arith, into-below start.geometry n torn into (contents start.zones) (contents now.zones) m.repair, length-map start.zones content_of, m.count)

-- what is known of the torn zone stays known between two Moves
pub moving-known : (n : ℕ) (start now : DriveState) (torn into : ℕ) (made : List Batch) (reported : ReportedZone) → IsMoving n start now torn into made → IsKnown start torn reported → IsKnown now torn reported
moving-known n start now torn into made reported m known =
    let ne = torn-apart n start now torn into made m in
    let same = moving-other n start now torn into made torn m ne in
    record {
      geometry = rw m.geometry known.geometry;
      lawful = m.lawful;
      in_range = omega (arith, known.in_range, m.count);
      usage = rw same known.usage;
      usable = known.usable;
      blocks = rw (m.geometry, same) known.blocks;
      shut = λ h. m.opens torn ne (known.shut h);
    }

-- between two Moves the torn zone is read as at the start
pub moving-source : (n : ℕ) (start now : DriveState) (torn into : ℕ) (made : List Batch) (tables : TablesView) → IsMoving n start now torn into made → source_of now tables torn ≡ source_of start tables torn
moving-source n start now torn into made tables m = rw (m.geometry, moving-other n start now torn into made torn m (torn-apart n start now torn into made m)) refl

-- ---- the drive takes a Move

inactive-state : (state : ZoneState) → is_active_usage (usage_of state) ≡ false → is_active state ≡ false
inactive-state states.Empty h = refl
inactive-state states.ImplicitlyOpened h = absurd (cc)
inactive-state states.ExplicitlyOpened h = absurd (cc)
inactive-state states.Closed h = absurd (cc)
inactive-state states.ReadOnly h = refl
inactive-state states.Full h = refl
inactive-state states.Offline h = refl

other-inactive : (n : ℕ) (start now : DriveState) (torn into : ℕ) (made : List Batch) (zone : ℕ) → IsMoving n start now torn into made → zone ≢ torn → zone ≢ into → zone < length now.zones → is_active (zone_at now.zones zone).state ≡ false
other-inactive n start now torn into made zone m ne other lt =
    inactive-state (zone_at now.zones zone).state (ap (λ (c : Content). is_active_usage c.usage) (sym (content_at-contents now.zones zone) ∙ moving-other n start now torn into made zone m other) ∙ m.settled zone (omega (arith, lt, m.count)) ne)

abbrev two : ℕ → ℕ → List Filling
two torn into = record { zone = torn; written = 0; may_open = false } ∷ record { zone = into; written = 0; may_open = false } ∷ []

into-there : (torn into : ℕ) → list_any (is_at into) (two torn into) ≡ true
into-there torn into = rw (eq-eqb into into refl) (at (eqb torn into))
  where
    at : (b : Bool) → (b || true) ≡ true
    at true = refl
    at false = refl

neither : (torn into k : ℕ) → list_any (is_at k) (two torn into) ≡ false → (k ≢ torn) × (k ≢ into)
neither torn into k e = ((λ same. first same), (λ same. second same))
  where
    first : k ≡ torn → ⊥
    first same = let bad : true ≡ false = rw (eq-eqb torn k (sym same)) at e in absurd (cc)

    second : k ≡ into → ⊥
    second same = let bad = rw (eq-eqb into k (sym same)) at e in by (eqb torn k) bad
      where
        by : (b : Bool) → (b || true) ≡ false → ⊥
        by true h = absurd (cc)
        by false h = absurd (cc)

count-active : (n : ℕ) (start now : DriveState) (torn into : ℕ) (made : List Batch) → IsMoving n start now torn into made → active_count (remove now.zones into) + 1 ≤ 2
count-active n start now torn into made m =
    count-others (λ (z : Zone). is_active z.state) now.zones (two torn into) into nowhere refl (into-in n start now torn into made m) (into-there torn into) (omega arith)
    (λ k below out. let ne = neither torn into k out in other-inactive n start now torn into made k m ne.0 ne.1 below)

count-open : (n : ℕ) (start now : DriveState) (torn into : ℕ) (made : List Batch) → IsMoving n start now torn into made → open_count (remove now.zones into) + 1 ≤ 2
count-open n start now torn into made m =
    count-others (λ (z : Zone). is_open z.state) now.zones (two torn into) into nowhere refl (into-in n start now torn into made m) (into-there torn into) (omega arith)
    (λ k below out. let ne = neither torn into k out in inactive-shut (zone_at now.zones k).state (other-inactive n start now torn into made k m ne.0 ne.1 below))

none-open : (n : ℕ) (start now : DriveState) (torn into : ℕ) (made : List Batch) → IsMoving n start now torn into made → start.geometry.open < 2 → open_count (remove now.zones into) ≡ 0
none-open n start now torn into made m few =
    let lt = into-in n start now torn into made m in
    count-remove (λ (z : Zone). is_open z.state) now.zones into nowhere refl lt ∙ count-zero (λ (z : Zone). is_open z.state) (set now.zones into nowhere) nowhere (λ k below. at k (cases_eq k into) (cases_eq k torn) lt (omega (arith, below, length-set now.zones into nowhere)))
  where
    at : (k : ℕ) → (k ≡ into) ⊎ (k ≢ into) → (k ≡ torn) ⊎ (k ≢ torn) → into < length now.zones → k < length now.zones → is_open (get_or (set now.zones into nowhere) k nowhere).state ≡ false
    at k (inl same) either lt below = rw (same, get_or-set_same now.zones into nowhere nowhere lt) refl
    at k (inr other) (inl same) lt below = rw (get_or-set_other now.zones into k nowhere nowhere other) (rw same (m.opens torn (torn-apart n start now torn into made m) (m.shut few)))
    at k (inr other) (inr ne) lt below = rw (get_or-set_other now.zones into k nowhere nowhere other) (inactive-shut (zone_at now.zones k).state (other-inactive n start now torn into made k m ne other below))

writable-with : (capacity written : ℕ) → written < capacity → is_writable (usage_with capacity written) ≡ true
writable-with capacity zero lt = refl
writable-with capacity (suc written) lt = rw (ne_eqb (suc written) capacity (λ e. omega (arith, e, lt))) refl

moving-can : (n : ℕ) (start now : DriveState) (torn into count : ℕ) (made : List Batch) → IsMoving n start now torn into made → 1 ≤ count → count ≤ start.geometry.transfer → log_size made + count ≤ start.geometry.capacity → CanAppend now (into * now.geometry.size) count
moving-can n start now torn into count made m some few room =
    let lt = into-in n start now torn into made m in
    let at = starts-at now into (into * now.geometry.size) (rw m.geometry m.range) m.lawful lt refl in
    let content = content_at-contents now.zones into in
    let g = m.geometry in
    record {
      aligned = at.aligned;
      in_range = at.below;
      few = rw g few;
      writable = rw (at.index, ← ap (λ (c : Content). c.usage) content, m.usage) (writable-with start.geometry.capacity (log_size made) (omega (arith, some, room)));
      room = rw (at.index, ← ap (λ (c : Content). c.blocks) content, m.written, g) room;
      active = rw (at.index, g) (omega (arith, count-active n start now torn into made m, m.range.active));
      open_zones = rw (at.index, g) (by (cases_lt start.geometry.open 2));
    }
  where
    by : (start.geometry.open < 2) ⊎ (2 ≤ start.geometry.open) → open_count (remove now.zones into) < start.geometry.open
    by (inl small) = omega (arith, none-open n start now torn into made m small, m.range.open_zones)
    by (inr large) = omega (arith, count-open n start now torn into made m, large)

-- ---- what the next Move needs

torn-batches : (n : ℕ) (start now : DriveState) (torn into : ℕ) (made : List Batch) → IsMoving n start now torn into made → AllByRecursion (IsBatch start.geometry.block) (log_at (drive_logs start) torn)
torn-batches n start now torn into made m = at (cases_lt torn (length (contents start.zones)))
  where
    at : (torn < length (contents start.zones)) ⊎ (length (contents start.zones) ≤ torn) → AllByRecursion (IsBatch start.geometry.block) (log_at (drive_logs start) torn)
    at (inl lt) = rw (log_at-zone start.geometry (contents start.zones) torn) (all-at (HasLog start.geometry) (contents start.zones) torn nothing m.repair.mountable.disk.logs lt).front.batches
    at (inr past) = rw (get_or_past (drive_logs start) torn [] (omega (arith, past, length-map (contents start.zones) (zone_log start.geometry)))) tt

-- the heading of the next Move fits in a header block
pub at-heading : (n : ℕ) (start now : DriveState) (tables : TablesView) (plan : MovePlan) (k : ℕ) (heads : HeadsView) → IsAtMove n start now tables plan k heads → k < move_count plan → IsHeading start.geometry.block (move_by (source_of start tables plan.torn) plan k).heading
at-heading n start now tables plan k heads a lt =
    let m = a.moving in
    move-heading start.geometry n k (drive_logs start) (source_of start tables plan.torn) plan m.range a.can lt (omega (arith, a.known.in_range, a.known.lawful.count)) (m.repair.mountable.disk.reserve.1)
    (torn-batches n start now plan.torn plan.into (moves_before (source_of start tables plan.torn) plan k) m)

-- the drive can take the next Move by an Append
pub at-can : (n : ℕ) (start now : DriveState) (tables : TablesView) (plan : MovePlan) (k : ℕ) (heads : HeadsView) → IsAtMove n start now tables plan k heads → k < move_count plan → CanAppend now (plan.into * now.geometry.size) (batch_size (move_by (source_of start tables plan.torn) plan k))
at-can n start now tables plan k heads a lt =
    let source = source_of start tables plan.torn in
    moving-can n start now plan.torn plan.into (batch_size (move_by source plan k)) (moves_before source plan k) a.moving (omega arith) (move-few start.geometry n k (drive_logs start) source plan a.moving.range a.can) (move-room start.geometry n k (drive_logs start) source plan a.can lt)

-- ---- the Move is made

filled-usage : (capacity size : ℕ) (blocks : List (List ℕ)) → length blocks ≡ size → 1 ≤ size → (filled capacity blocks).usage ≡ usage_with capacity size
filled-usage capacity zero blocks is some = absurd (omega arith)
filled-usage capacity (suc size) blocks is some = rw is refl

moved-more : (n : ℕ) (start now next : DriveState) (torn into : ℕ) (made : List Batch) (b : Batch) → IsMoving n start now torn into made → IsBatch start.geometry.block b → TakesFirst now next into b (batch_size b)
    → AppendsMove start.geometry n (contents start.zones) (contents now.zones) (contents next.zones) torn into b → IsMoving n start next torn into (made ++ b ∷ [])
moved-more n start now next torn into made b m is t done =
    let g = start.geometry in
    let old = (content_at (contents now.zones) into).blocks in
    let long : length (batch_blocks g.block b) ≡ batch_size b = omega (arith, is.body) in
    let all : take (batch_size b) (batch_blocks g.block b) ≡ batch_blocks g.block b = take_all (batch_size b) (batch_blocks g.block b) (omega (arith, long)) in
    let made_content = filled g.capacity (old ++ batch_blocks g.block b) in
    let zones : contents next.zones ≡ set (contents now.zones) into made_content = rw (m.geometry, all) at t.appends.zones in
    let there : content_at (contents next.zones) into ≡ made_content = rw zones (get_or-set_same (contents now.zones) into made_content nothing t.appends.in_range) in
    let size : length (old ++ batch_blocks g.block b) ≡ log_size (made ++ b ∷ []) = omega (arith, length-append old (batch_blocks g.block b), long, m.written, log_size-append made b) in
    record {
      range = m.range;
      geometry = t.geometry ∙ m.geometry;
      lawful = t.lawful;
      refused = t.refused ∙ m.refused;
      durable = t.durable ∙ m.durable;
      count = omega (arith, ap length zones, length-set (contents now.zones) into made_content, length-map next.zones content_of, length-map now.zones content_of, m.count);
      repair = done.repair;
      log = done.log ∙ ap (λ (log : List Batch). log ++ b ∷ []) m.log;
      written = ap (λ (c : Content). length c.blocks) there ∙ size;
      usage = ap (λ (c : Content). c.usage) there ∙ filled-usage g.capacity (log_size (made ++ b ∷ [])) (old ++ batch_blocks g.block b) size (omega (arith, log_size-append made b));
      whole = done.whole;
      opens = λ zone ne h. t.opens zone ne (m.opens zone ne h);
      settled = m.settled;
      shut = m.shut;
    }

-- all blocks of the Move were taken
whole-appends : (n : ℕ) (start now next : DriveState) (torn into : ℕ) (made : List Batch) (b : Batch) → IsMoving n start now torn into made → IsBatch start.geometry.block b → TakesFirst now next into b (batch_size b)
    → Appends (contents now.zones) (contents next.zones) start.geometry.capacity into (batch_blocks start.geometry.block b)
whole-appends n start now next torn into made b m is t =
    let all : take (batch_size b) (batch_blocks start.geometry.block b) ≡ batch_blocks start.geometry.block b = take_all (batch_size b) (batch_blocks start.geometry.block b) (omega (arith, is.body)) in
    rw (m.geometry, all) at t.appends

at-batch : (n : ℕ) (start now : DriveState) (tables : TablesView) (plan : MovePlan) (k : ℕ) (heads : HeadsView) → IsAtMove n start now tables plan k heads → k < move_count plan → IsBatch start.geometry.block (move_by (source_of start tables plan.torn) plan k)
at-batch n start now tables plan k heads a lt = move-batch start.geometry.block k (source_of start tables plan.torn) plan (at-heading n start now tables plan k heads a lt)

at-moved : (n : ℕ) (start now next : DriveState) (tables : TablesView) (plan : MovePlan) (k : ℕ) (heads : HeadsView) → IsAtMove n start now tables plan k heads → k < move_count plan → TakesFirst now next plan.into (move_by (source_of start tables plan.torn) plan k) (batch_size (move_by (source_of start tables plan.torn) plan k))
    → IsMoving n start next plan.torn plan.into (moves_before (source_of start tables plan.torn) plan (suc k))
at-moved n start now next tables plan k heads a lt t =
    let g = start.geometry in
    let source = source_of start tables plan.torn in
    let b = move_by source plan k in
    let made = moves_before source plan k in
    let m = a.moving in
    let is = at-batch n start now tables plan k heads a lt in
    let done = move_repairs g n plan.torn plan.into (contents start.zones) (contents now.zones) (contents next.zones) b (moving-small n start now plan.torn plan.into made m) m.repair is (rw m.log (repair-move g n k (drive_logs start) source plan a.can lt)) m.whole
    (whole-appends n start now next plan.torn plan.into made b m is t) in
    moved-more n start now next plan.torn plan.into made b m is t done

-- once the next Move and its header are added, one Move more is made
pub at-next : (n : ℕ) (start now next : DriveState) (tables : TablesView) (plan : MovePlan) (k : ℕ) (heads more : HeadsView) → IsAtMove n start now tables plan k heads → k < move_count plan → TakesFirst now next plan.into (move_by (source_of start tables plan.torn) plan k) (batch_size (move_by (source_of start tables plan.torn) plan k))
    → more ≡ with_heading heads (move_by (source_of start tables plan.torn) plan k).heading → IsAtMove n start next tables plan (k + 1) more
at-next n start now next tables plan k heads more a lt t more-is =
    let source = source_of start tables plan.torn in
    let same : k + 1 ≡ suc k = omega arith in
    rw same (record {
      can = a.can;
      known = a.known;
      readable_blocks = a.readable_blocks;
      moving = at-moved n start now next tables plan k heads a lt t;
      heads_are = more-is ∙ ap (λ (h : HeadsView). with_heading h (move_by source plan k).heading) a.heads_are ∙ sym (heads-more (moves_before source plan k) (move_by source plan k));
    })

-- as many Moves are made as before if contents stay and no zone is opened
pub at-kept : (n : ℕ) (start now next : DriveState) (tables : TablesView) (plan : MovePlan) (k : ℕ) (heads : HeadsView) → KeepsShut now next → IsAtMove n start now tables plan k heads → IsAtMove n start next tables plan k heads
at-kept n start now next tables plan k heads kept a = record {
  can = a.can;
  known = a.known;
  readable_blocks = a.readable_blocks;
  moving = moving-kept n start now next plan.torn plan.into (moves_before (source_of start tables plan.torn) plan k) kept a.moving;
  heads_are = a.heads_are;
}

-- ---- a stop inside a Move

torn-half : (n : ℕ) (start now next : DriveState) (tables : TablesView) (plan : MovePlan) (k : ℕ) (heads : HeadsView) → IsAtMove n start now tables plan k heads → k < move_count plan
    → (tears : TearsMove start.geometry n (contents start.zones) (contents now.zones) (contents next.zones) plan.torn plan.into) → IsHalfClean start.geometry.block n (zone_logs start.geometry (contents next.zones)) plan.torn → ⊥
torn-half n start now next tables plan k heads a lt tears half =
    let g = start.geometry in
    let source = source_of start tables plan.torn in
    let moves = moves_before source plan k in
    let repair = tears.repair in
    let made : zone_log g repair.made ≡ moves = ap (zone_log g) (sym (made-there g n plan.torn plan.into (contents start.zones) (contents next.zones) repair)) ∙ tears.log ∙ a.moving.log in
    let logs : zone_logs g (contents next.zones) ≡ set (zone_logs g (contents start.zones)) plan.into moves = logs-now g n plan.torn plan.into (contents start.zones) (contents next.zones) repair ∙ ap (set (zone_logs g (contents start.zones)) plan.into) made in
    needed_stays g.block n plan.torn plan.into (zone_logs g (contents start.zones)) moves (rw made at repair.repairing) (a.can.needed k lt) (rw logs at half)

-- a stop inside the next Move leaves a drive that is mountable with its array
pub at-stop : (n : ℕ) (start now next : DriveState) (tables : TablesView) (plan : MovePlan) (k : ℕ) (heads : HeadsView) → IsAtMove n start now tables plan k heads → k < move_count plan → TakesSome now next plan.into (move_by (source_of start tables plan.torn) plan k) → KeepsMountable n start next
at-stop n start now next tables plan k heads a lt some = by some
  where
    by : TakesSome now next plan.into (move_by (source_of start tables plan.torn) plan k) → KeepsMountable n start next
    by (inl kept) = mountable-both n start now next (moving-mounts n start now plan.torn plan.into (moves_before (source_of start tables plan.torn) plan k) a.moving) (kept n)
    by (inr (j, t)) = elim (cases_eq j (batch_size (move_by (source_of start tables plan.torn) plan k))) as (λ _. KeepsMountable n start next) [
      | inl all ↦ moving-mounts n start next plan.torn plan.into (moves_before (source_of start tables plan.torn) plan (suc k)) (at-moved n start now next tables plan k heads a lt (rw all at t))
      | inr less ↦ (
          let g = start.geometry in
          let source = source_of start tables plan.torn in
          let b = move_by source plan k in
          let moves = moves_before source plan k in
          let m = a.moving in
          let is = at-batch n start now tables plan k heads a lt in
          let long : length (batch_blocks g.block b) ≡ batch_size b = omega (arith, is.body) in
          let few : j < length (batch_blocks g.block b) = omega (arith, less, t.few, long) in
          let small = moving-small n start now plan.torn plan.into moves m in
          let tears = torn_move_repairs g n plan.torn plan.into j (contents start.zones) (contents now.zones) (contents next.zones) b small m.repair is m.whole few (omega (arith, few, long, m.written, move-room g n k (drive_logs start) source plan a.can lt)) (rw m.geometry at t.appends) in
          mounts-by n start next plan.torn plan.into small tears.repair (λ tail half. torn-half n start now next tables plan k heads a lt tears half) (t.geometry ∙ m.geometry) t.lawful (t.refused ∙ m.refused) (t.durable ∙ m.durable)
          )
    ]
