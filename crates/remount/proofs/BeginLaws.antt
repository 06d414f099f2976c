-- The drive before the first Move of a repair, and after the whole repair.
use Rattle.std.proofs.Common.{◌≡◌, ◌≢◌, ◌⊎◌, inl, inr, ℕ, zero, suc, ◌<◌, ◌≤◌, Bool, true, false, List, [], ◌∷◌, length, set, get_or, Some, refl, sym, ap, subst, ◌∙◌, arith}
use Rattle.std.specs.Prelude.{slice_get}
use Rattle.std.proofs.lemmas.Bool.{cases_eq, cases_lt}
use Rattle.std.proofs.lemmas.List.{get_or-set_other, get_or-set_same, get_or_past, length-map, length-set}
use Rattle.nvme_wire.specs.declared.zone_state.ZoneState.{ZoneState}
use Rattle.nvme_wire.specs.declared.zone_state.ZoneState.TheVariants as states
use Rattle.zone_states.specs.declared.geometry.Geometry.{Geometry}
use Rattle.zone_states.specs.Zone.{IsLawfulZone}
use Rattle.drive_port.specs.Contents.{Content, content_at, content_of, contents, empty, emptied, nothing, usage_of}
use Rattle.drive_port.specs.Drive.{DriveState, IsLawful}
use Rattle.drive_port.specs.Step.{nowhere, zone_at}
use Rattle.drive_port.proofs.ClosingLaws.{content_at-contents}
use Rattle.batch_log.specs.Log.{Batch}
use Rattle.zone_choice.specs.Agreement.{IsShut}
use Rattle.drive_array.specs.ZoneLogs.{drive_logs, has_torn_tail, log_at, zone_log, zone_tails}
use Rattle.drive_array.specs.Mountable.{IsMountable, is_partly_written}
use Rattle.drive_array.specs.Spare.{IsHalfClean, IsVacant, NoneBelow}
use Rattle.zone_choice.specs.Tables.{TablesView}
use Rattle.drive_array.proofs.AllLaws.{all-at}
use Rattle.drive_array.proofs.RepairingMounts.{repair_begins, emptied-nothing}
use Rattle.drive_array.proofs.ZoneLogLaws.{tail-at}
use Rattle.remount.specs.declared.repair.moves.MovePlan.{MovePlan}
use Rattle.remount.specs.declared.repair.Repair.{Repair}
use Rattle.drive_survey.specs.declared.reported.ReportedZone.{ReportedZone}
use Rattle.drive_survey.specs.declared.survey.Survey.{Survey}
use Rattle.drive_survey.specs.declared.scan.ScannedZone.{ScannedZone}
use Rattle.drive_survey.specs.Heads.{HeadsView, heads_of, no_heads}
use Rattle.remount.specs.Kept.{AreVacantEmpty, KeepsMountable}
use Rattle.drive_survey.specs.Known.{HasVacant, Knows}
use Rattle.remount.specs.Mount.{AreWhole, IsCleared, IsOnlyTorn, IsRepairPlan}
use Rattle.remount.specs.Moving.{AreSettled, EmptiesTorn, IsAtMove, IsMovePlan, IsMoving, KeepsShut, SettlesOthers, move_count, moves_before, source_of}
use Rattle.drive_survey.specs.Reported.{KeepsZones}
use Rattle.drive_survey.specs.Scan.{AreKnown}
use Rattle.remount.proofs.CallLaws.{in-get, shut-both, shut-count, shut-known, shut-knows, shut-mountable, zones-shut}
use Rattle.remount.proofs.MakingLaws.{count-before}
use Rattle.remount.proofs.NoteLaws.{heads-blocks, logs-emptied, tails-emptied, untorn-emptied}

-- ---- a zone that was reported Empty

empty-content : (geometry : Geometry) (state : ZoneState) (blocks : List (List ℕ)) → IsLawfulZone geometry (record { state = state; blocks = blocks }) → usage_of state ≡ empty → content_of (record { state = state; blocks = blocks }) ≡ emptied
empty-content geometry states.Empty [] lawful e = refl
empty-content geometry states.Empty (b ∷ bs) lawful e = absurd (let bad = lawful.written in omega (arith, bad))
empty-content geometry states.ImplicitlyOpened blocks lawful e = absurd (cc)
empty-content geometry states.ExplicitlyOpened blocks lawful e = absurd (cc)
empty-content geometry states.Closed blocks lawful e = absurd (cc)
empty-content geometry states.ReadOnly blocks lawful e = absurd (cc)
empty-content geometry states.Full blocks lawful e = absurd (cc)
empty-content geometry states.Offline blocks lawful e = absurd (cc)

-- a zone that was reported Empty holds nothing
reported-emptied : (drive : DriveState) (reported : List ReportedZone) (zone : ℕ) (r : ReportedZone) → AreKnown drive reported → slice_get reported zone ≡ Some r → r.state ≡ states.Empty → content_at (contents drive.zones) zone ≡ emptied
reported-emptied drive reported zone r known is state =
    let k = known.each zone r is in
    let z = zone_at drive.zones zone in
    let content = content_at-contents drive.zones zone in
    let lawful : IsLawfulZone drive.geometry z = all-at (IsLawfulZone drive.geometry) drive.zones zone nowhere known.lawful.zones k.in_range in
    let usage : usage_of z.state ≡ empty = sym (ap (λ (c : Content). c.usage) content) ∙ k.usage ∙ ap usage_of state in
    content ∙ empty-content drive.geometry z.state z.blocks lawful usage

-- no zone but the torn one has a torn tail
tails-only : (drive : DriveState) (reported : List ReportedZone) (torn zone : ℕ) → AreKnown drive reported → AreVacantEmpty reported (drive_logs drive) → IsOnlyTorn (drive_logs drive) (zone_tails (contents drive.zones)) torn
    → get_or (zone_tails (contents drive.zones)) zone false ≡ true → zone ≡ torn
tails-only drive reported torn zone known vacant only tail = at (cases_lt zone (length drive.zones))
  where
    none : zone < length drive.zones → log_at (drive_logs drive) zone ≡ [] → ⊥
    none lt empty_log =
        let there = in-get reported zone (record { state = states.Empty; blocks = 0 }) (omega (arith, lt, known.count)) in
        let content = reported-emptied drive reported zone there.0 known there.1 (vacant zone there.0 there.1 empty_log) in
        let untorn : has_torn_tail (content_at (contents drive.zones) zone) ≡ false = ap has_torn_tail content ∙ untorn-emptied in
        let torn_there = sym (tail-at (contents drive.zones) zone (omega (arith, lt, length-map drive.zones content_of))) ∙ tail in
        let bad : false ≡ true = sym untorn ∙ torn_there in
        absurd (cc)

    at : (zone < length drive.zones) ⊎ (length drive.zones ≤ zone) → zone ≡ torn
    at (inl lt) = only.only zone (record { batch = none lt; tail = tail })
    at (inr past) = absurd (let bad : false ≡ true = sym (get_or_past (zone_tails (contents drive.zones)) zone false (omega (arith, past, length-map (contents drive.zones) has_torn_tail, length-map drive.zones content_of))) ∙ tail in cc)

settled-alone : (drive : DriveState) (torn zone : ℕ) → AreSettled drive torn (length drive.zones) → zone ≢ torn → is_partly_written (content_at (contents drive.zones) zone) ≡ false
settled-alone drive torn zone settled ne = at (cases_lt zone (length drive.zones))
  where
    at : (zone < length drive.zones) ⊎ (length drive.zones ≤ zone) → is_partly_written (content_at (contents drive.zones) zone) ≡ false
    at (inl lt) = rw (settled zone lt ne) refl
    at (inr past) = rw (get_or_past (contents drive.zones) zone nothing (omega (arith, past, length-map drive.zones content_of))) refl

-- ---- before the first Move

-- on a cleared drive with settled zones the repair into an empty zone begins, with no Move yet
pub begins : (n : ℕ) (drive : DriveState) (survey : Survey) (torn into : ℕ) → IsMountable drive n → NoneBelow drive.geometry.block n (drive_logs drive) (length drive.zones) → Knows drive n (drive_logs drive) survey → AreVacantEmpty survey.zones.items (drive_logs drive)
    → IsOnlyTorn (drive_logs drive) (zone_tails (contents drive.zones)) torn → AreSettled drive torn (length drive.zones) → content_at (contents drive.zones) into ≡ emptied → into < length drive.zones → (drive.geometry.open < 2 → IsShut drive.zones torn)
    → IsMoving n drive drive torn into []
begins n drive survey torn into mountable none_left known vacant only settled there lt shut =
    let g = drive.geometry in
    let zones = contents drive.zones in
    record {
      range = known.zones.geometry;
      geometry = refl;
      lawful = known.zones.lawful;
      refused = refl;
      durable = refl;
      count = refl;
      repair = repair_begins g n torn into zones known.zones.lawful.geometry.block mountable.holds (λ zone below half. none_left zone (omega (arith, below, length-map drive.zones content_of)) half) (λ zone ne. settled-alone drive torn zone settled ne)
          (λ zone tail. tails-only drive survey.zones.items torn zone known.zones vacant only tail) only.torn.batch (omega (arith, lt, length-map drive.zones content_of)) there;
      log = ap (zone_log g) there ∙ emptied-nothing g;
      written = ap (λ (c : Content). length c.blocks) there;
      usage = ap (λ (c : Content). c.usage) there;
      whole = ap has_torn_tail there ∙ untorn-emptied;
      opens = λ zone ne h. h;
      settled = settled;
      shut = shut;
    }

-- a plan of Moves stays one if the contents stay and no zone is opened
plan-kept : (n : ℕ) (old new : DriveState) (survey : Survey) (repair : Repair) (into : ℕ) (plan : MovePlan) → KeepsShut old new → IsMovePlan old n survey repair into plan → IsMovePlan new n survey repair into plan
plan-kept n old new survey repair into plan k p = record {
  torn = p.torn;
  into_is = p.into_is;
  known = shut-known old new plan.torn plan.reported k p.known;
  can = rw (k.geometry, k.contents_are) p.can;
  readable_blocks = rw k.geometry p.readable_blocks;
}

-- What holds before the Moves are planned.
pub record IsPrepared (n : ℕ) (drive : DriveState) (survey : Survey) (torn into : ℕ) : Type 0 where
  pub mountable : IsMountable drive n
  pub none_left : NoneBelow drive.geometry.block n (drive_logs drive) (length drive.zones)
  pub known : Knows drive n (drive_logs drive) survey
  pub vacant : AreVacantEmpty survey.zones.items (drive_logs drive)
  pub only : IsOnlyTorn (drive_logs drive) (zone_tails (contents drive.zones)) torn
  pub settled : AreSettled drive torn (length drive.zones)
  pub there : content_at (contents drive.zones) into ≡ emptied
  pub in_range : into < length drive.zones

-- a drive stays prepared for the Moves if the contents stay and no zone is opened
prepared-kept : (n : ℕ) (old new : DriveState) (survey : Survey) (torn into : ℕ) → KeepsShut old new → IsPrepared n old survey torn into → IsPrepared n new survey torn into
prepared-kept n old new survey torn into k p =
    let same = k.contents_are in
    let count = shut-count old new same in
    record {
      mountable = (shut-mountable n old new k).mountable p.mountable;
      none_left = λ zone below half. p.none_left zone (omega (arith, below, count)) (rw (k.geometry, same) at half);
      known = shut-knows n old new survey k p.known;
      vacant = rw (k.geometry, same) p.vacant;
      only = rw (k.geometry, same) p.only;
      settled = λ zone lt ne. rw same (p.settled zone (omega (arith, lt, count)) ne);
      there = rw same p.there;
      in_range = omega (arith, p.in_range, count);
    }

-- a prepared drive with planned Moves is before the first one, with no header yet
at-first : (n : ℕ) (drive : DriveState) (survey : Survey) (repair : Repair) (into : ℕ) (plan : MovePlan) → IsPrepared n drive survey repair.zone into → IsMovePlan drive n survey repair into plan → (drive.geometry.open < 2 → IsShut drive.zones plan.torn) → IsAtMove n drive drive repair.tables plan 0 no_heads
at-first n drive survey repair into plan p is shut = record {
  can = is.can;
  known = is.known;
  readable_blocks = is.readable_blocks;
  moving = begins n drive survey plan.torn plan.into p.mountable p.none_left p.known p.vacant (rw is.torn p.only) (rw is.torn p.settled) (rw is.into_is p.there) (rw is.into_is p.in_range) shut;
  heads_are = refl;
}

-- ---- after it

-- after the repair a zone is vacant: the torn one, which was emptied
pub repaired-vacant : (n : ℕ) (start new : DriveState) (plan : MovePlan) (made : List Batch) → EmptiesTorn n start new plan made → plan.torn < length start.zones → HasVacant (drive_logs new)
repaired-vacant n start new plan made e lt =
    let logs = logs-emptied n start new plan made e in
    let long : length (drive_logs start) ≡ length start.zones = length-map (contents start.zones) (zone_log start.geometry) ∙ length-map start.zones content_of in
    let put = length-set (drive_logs start) plan.into made in
    record {
      zone = plan.torn;
      in_range = omega (arith, ap length logs, length-set (set (drive_logs start) plan.into made) plan.torn [], put, long, lt);
      vacant = rw logs (get_or-set_same (set (drive_logs start) plan.into made) plan.torn [] [] (omega (arith, put, long, lt)));
    }

-- after the repair no zone has a torn tail, if only the torn one had one
pub repaired-whole : (n : ℕ) (start new : DriveState) (survey : Survey) (plan : MovePlan) (made : List Batch) → EmptiesTorn n start new plan made → Knows start n (drive_logs start) survey → AreVacantEmpty survey.zones.items (drive_logs start) → IsOnlyTorn (drive_logs start) (zone_tails (contents start.zones)) plan.torn
    → AreWhole (contents new.zones)
repaired-whole n start new survey plan made e known vacant only zone = rw (tails-emptied n start new plan made e) (at (cases_eq zone plan.torn) (cases_eq zone plan.into))
  where
    tails : List Bool
    tails = zone_tails (contents start.zones)

    put-false : (xs : List Bool) (i : ℕ) → get_or (set xs i false) i false ≡ false
    put-false [] i = refl
    put-false (x ∷ xs) zero = refl
    put-false (x ∷ xs) (suc i) = put-false xs i

    other : (b : Bool) → get_or tails zone false ≡ b → zone ≢ plan.torn → b ≡ false
    other false is ne = refl
    other true is ne = absurd (ne (tails-only start survey.zones.items plan.torn zone known.zones vacant only is))

    at : (zone ≡ plan.torn) ⊎ (zone ≢ plan.torn) → (zone ≡ plan.into) ⊎ (zone ≢ plan.into) → get_or (set (set (zone_tails (contents start.zones)) plan.into false) plan.torn false) zone false ≡ false
    at (inl same) either = rw same (put-false (set (zone_tails (contents start.zones)) plan.into false) plan.torn)
    at (inr ne) (inl same) = get_or-set_other (set (zone_tails (contents start.zones)) plan.into false) plan.torn zone false false ne ∙ rw same (put-false (zone_tails (contents start.zones)) plan.into)
    at (inr ne) (inr apart) = get_or-set_other (set (zone_tails (contents start.zones)) plan.into false) plan.torn zone false false ne ∙ get_or-set_other (zone_tails (contents start.zones)) plan.into zone false false apart ∙ other (get_or (zone_tails (contents start.zones)) zone false) refl ne

-- a cleared drive that can be mounted has an Empty zone
pub has-empty : (n : ℕ) (drive : DriveState) (survey : Survey) → IsMountable drive n → NoneBelow drive.geometry.block n (drive_logs drive) (length drive.zones) → Knows drive n (drive_logs drive) survey → AreVacantEmpty survey.zones.items (drive_logs drive)
    → ((zone : ℕ) (r : ReportedZone) → slice_get survey.zones.items zone ≡ Some r → r.state ≢ states.Empty) → ⊥
has-empty n drive survey mountable none_left known vacant none =
    let spare = mountable.holds.disk.spare in
    let lt : spare.zone < length drive.zones = omega (arith, spare.in_range, length-map (contents drive.zones) (zone_log drive.geometry), length-map drive.zones content_of) in
    let there = in-get survey.zones.items spare.zone (record { state = states.Empty; blocks = 0 }) (omega (arith, lt, known.zones.count)) in
    by spare.zone lt there.0 there.1 spare.spare
  where
    by : (zone : ℕ) → zone < length drive.zones → (r : ReportedZone) → slice_get survey.zones.items zone ≡ Some r → IsVacant (drive_logs drive) zone ⊎ IsHalfClean drive.geometry.block n (drive_logs drive) zone → ⊥
    by zone lt r is (inl empty_log) = none zone r is (vacant zone r is empty_log)
    by zone lt r is (inr half) = none_left zone lt half

-- ---- step by step

-- a drive without half clean zones still has none if its logs stay
pub cleared-kept : (n : ℕ) (old new : DriveState) → IsLawful old → KeepsMountable n old new → drive_logs new ≡ drive_logs old → NoneBelow old.geometry.block n (drive_logs old) (length old.zones) → NoneBelow new.geometry.block n (drive_logs new) (length new.zones)
cleared-kept n old new was k logs none zone lt half =
    none zone (omega (arith, lt, was.count, k.lawful.count, ap (λ (g : Geometry). g.zones) k.geometry)) (subst (λ (g : Geometry). IsHalfClean g.block n (drive_logs old) zone) k.geometry (subst (λ (l : List (List Batch)). IsHalfClean new.geometry.block n l zone) logs half))

-- What is left of the drive once no zone but the torn one is open or Closed.
pub record IsFinished (n : ℕ) (drive : DriveState) (survey : Survey) (torn : ℕ) : Type 0 where
  pub mountable : IsMountable drive n
  pub none_left : NoneBelow drive.geometry.block n (drive_logs drive) (length drive.zones)
  pub known : Knows drive n (drive_logs drive) survey
  pub vacant : AreVacantEmpty survey.zones.items (drive_logs drive)
  pub only : IsOnlyTorn (drive_logs drive) (zone_tails (contents drive.zones)) torn
  pub settled : AreSettled drive torn (length drive.zones)

-- finishing the other zones of a cleared drive leaves none but the torn zone opened or Closed
pub is-finished : (old new : DriveState) (before survey : Survey) (repair : Repair) → IsCleared old before.given before → IsRepairPlan old.geometry before.given (drive_logs old) (zone_tails (contents old.zones)) repair → KeepsMountable before.given old new
    → SettlesOthers old new repair.zone → IsCleared new before.given survey → IsFinished before.given new survey repair.zone
is-finished old new before survey repair was plan kept left cleared =
    let torn = repair.zone in
    record {
      mountable = kept.mountable was.mountable;
      none_left = cleared-kept before.given old new was.mountable.lawful kept left.logs was.none;
      known = cleared.known;
      vacant = cleared.empty;
      only = subst (λ (l : List (List Batch)). IsOnlyTorn l (zone_tails (contents new.zones)) torn) (sym left.logs) (subst (λ (t : List Bool). IsOnlyTorn (drive_logs old) t torn) (sym left.tails) plan.torn);
      settled = left.settled;
    }

-- a finished drive is prepared for Moves into a zone that was reported Empty
pub is-prepared : (n : ℕ) (drive : DriveState) (survey : Survey) (torn into : ℕ) (zones : List ReportedZone) → IsFinished n drive survey torn → zones ≡ survey.zones.items → (into < length zones) × ((r : ReportedZone) → slice_get zones into ≡ Some r → r.state ≡ states.Empty) → IsPrepared n drive survey torn into
is-prepared n drive survey torn into zones f is found =
    let below : into < length survey.zones.items = omega (arith, found.0, ap length is) in
    let there = in-get survey.zones.items into (record { state = states.Empty; blocks = 0 }) below in
    record {
      mountable = f.mountable;
      none_left = f.none_left;
      known = f.known;
      vacant = f.vacant;
      only = f.only;
      settled = f.settled;
      there = reported-emptied drive survey.zones.items into there.0 f.known.zones there.1 (found.1 there.0 (subst (λ (zs : List ReportedZone). slice_get zs into ≡ Some there.0) (sym is) there.1));
      in_range = omega (arith, below, f.known.zones.count);
    }

-- The drive after the Close, where the Moves begin.
pub record IsStarted (n : ℕ) (drive start : DriveState) (survey : Survey) (repair : Repair) (into : ℕ) (plan : MovePlan) : Type 0 where
  pub kept : KeepsMountable n drive start
  pub prepared : IsPrepared n start survey repair.zone into
  pub at : IsAtMove n start start repair.tables plan 0 no_heads
  pub torn : plan.torn ≡ repair.zone

-- the Moves begin on a prepared drive once they are planned and Close was sent
pub is-started : (n : ℕ) (drive middle start : DriveState) (survey : Survey) (repair : Repair) (into : ℕ) (plan : MovePlan) → IsPrepared n drive survey repair.zone into → KeepsZones drive middle → IsMovePlan drive survey.given survey repair into plan → KeepsShut middle start
    → (middle.geometry.open < 2 → IsShut start.zones plan.torn) → IsStarted n drive start survey repair into plan
is-started n drive middle start survey repair into plan p looked is closed shut =
    let k = shut-both drive middle start (zones-shut drive middle looked) closed in
    let prepared = prepared-kept n drive start survey repair.zone into k p in
    let is' = plan-kept n drive start survey repair into plan k (subst (λ (m : ℕ). IsMovePlan drive m survey repair into plan) p.known.given_is is) in
    record {
      kept = shut-mountable n drive start k;
      prepared = prepared;
      at = at-first n start survey repair into plan prepared is' (λ few. shut (subst (λ (g : Geometry). g.open < 2) closed.geometry few));
      torn = is.torn;
    }

-- a survey has scanned as many zones as were reported
pub survey-count : (n : ℕ) (drive : DriveState) (survey : Survey) → Knows drive n (drive_logs drive) survey → length survey.scanned.items ≡ length survey.zones.items
survey-count n drive survey known =
    omega (arith, ap length known.heads, length-map survey.scanned.items (λ (z : ScannedZone). z.heads), length-map (drive_logs drive) heads_of, known.count, known.zones.count)

-- once all Moves are made, they take at least one block
pub heads-some : (n : ℕ) (start now : DriveState) (tables : TablesView) (plan : MovePlan) (heads : HeadsView) → IsAtMove n start now tables plan (move_count plan) heads → 1 ≤ heads.blocks
heads-some n start now tables plan heads a =
    let source = source_of start tables plan.torn in
    let made = moves_before source plan (move_count plan) in
    omega (arith, ap (λ (h : HeadsView). h.blocks) a.heads_are, heads-blocks made, count-before source plan (move_count plan))
