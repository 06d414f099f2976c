-- The steps of a mount, one after the other.
use Rattle.std.proofs.Common.{◌≡◌, ◌≢◌, ◌⊎◌, inl, inr, ℕ, zero, suc, ◌+◌, ◌<◌, ◌≤◌, ◌^◌, ◌-◌, max, min, Bool, true, false, List, [], ◌∷◌, length, map, get_or, Option, Some, None, is_some, refl, sym, ap, subst, ◌∙◌, arith}
use Rattle.std.specs.Prelude.{OnOk, Result, Ok, Err}
use Rattle.std.specs.List.{AllByRecursion}
use Rattle.std.proofs.lemmas.List.{length-map, nil_from_length}
use Rattle.nvme_wire.specs.declared.zone_state.ZoneState.{ZoneState}
use Rattle.nvme_wire.specs.declared.zone_state.ZoneState.TheVariants as states
use Rattle.zone_states.specs.declared.geometry.Geometry.{Geometry}
use Rattle.zone_states.specs.Zone.{IsLawfulZone, MayHold, Zone}
use Rattle.drive_port.specs.Contents.{Content, content_at, content_of, contents, empty, usage_of}
use Rattle.drive_port.specs.Drive.{DriveState, IsLawful}
use Rattle.batch_log.specs.Log.{Batch}
use Rattle.zone_choice.specs.Agreement.{Agrees, mounted}
use Rattle.drive_array.specs.ZoneLogs.{HasLog, drive_logs, has_torn_tail, log_at, sequences, zone_tails}
use Rattle.drive_array.specs.Mountable.{AreMountable, AreSound, HoldDisk}
use Rattle.drive_array.specs.Repair.{CanRepair, IsTornAt}
use Rattle.drive_array.specs.Reserve.{FitsReserve}
use Rattle.drive_array.specs.Sizes.{encoded_size}
use Rattle.drive_array.specs.Spare.{HasSpare, IsClearing, IsHalfClean, IsVacant, NoneBelow, cleared}
use Rattle.zone_choice.specs.declared.roles.Filling.{Filling}
use Rattle.zone_choice.specs.Roles.{fillings}
use Rattle.zone_choice.specs.Tables.{TablesView}
use Rattle.drive_survey.specs.declared.fault.MountFault.{MountFault}
use Rattle.drive_survey.specs.declared.fault.MountFault.TheVariants as faults
use Rattle.remount.specs.declared.repair.Repair.{Repair}
use Rattle.drive_survey.specs.declared.reported.ReportedZone.{ReportedZone}
use Rattle.remount.specs.declared.plan.Plan.{Plan}
use Rattle.drive_survey.specs.declared.survey.Survey.{Survey}
use Rattle.drive_survey.specs.declared.scan.ScannedZone.{ScannedZone}
use Rattle.drive_survey.specs.Heads.{HeadsView, greatest_sequence, heads_of, sequences_in}
use Rattle.remount.specs.Kept.{AreVacantEmpty, Fits, IsNotedOpen, KeepsMountable}
use Rattle.drive_survey.specs.Known.{HasVacant, Knows}
use Rattle.remount.specs.Mount.{AreMountedRoles, AreToEmpty, AreWhole, CannotRepair, IsCleared, IsRepairPlan, IsPlanned, IsRepaired, IsToMount, IsUntorn, FinishesByNeed, KeepsOthers, LeavesCleared, LeavesEmptied, LeavesPlanned, LeavesRepaired, MountFails, Mounts, NoneIsTorn, PlanFails, PlansRepair, WasOpenOrTook}
use Rattle.drive_survey.specs.Reported.{KeepsZones}
use Rattle.remount.specs.Resets.{CanBeFilled, KeepsGoing, KeepsWritten, ResetsAll}
use Rattle.drive_survey.specs.Scan.{FailsBy, heads_in}
use Rattle.drive_survey.specs.Survey.{CanScan, HoldLogs, Surveys, drive_size}
use Rattle.drive_array.proofs.ClearingLaws.{clearing_keeps, one_clearing}
use Rattle.drive_survey.proofs.AllScanLaws.{there-is}
use Rattle.remount.proofs.EmptyLaws.{CanEmpty, knows-cleared, logs-cleared, tails-emptied, vacant-emptied, written-stay}
use Rattle.remount.proofs.KeepLaws.{keeps-mountable-both}
use Rattle.drive_survey.proofs.NextLaws.{fails-more}
use Rattle.remount.proofs.TornPlanLaws.{sequences-kept}
use Rattle.drive_survey.proofs.ReadLaws.{keeps-both, kept-contents}
use Rattle.remount.proofs.SetAllLaws.{cleared-set_all, set_all-parts}

-- ---- what is kept

kept-logs : (old new : DriveState) → KeepsZones old new → drive_logs new ≡ drive_logs old
kept-logs old new k = rw (k.geometry, kept-contents old new k) refl

-- if only the controller closed zones, a drive stays mountable with its array
pub closing-keeps : (old new : DriveState) (n : ℕ) → KeepsZones old new → KeepsMountable n old new
closing-keeps old new n k = record {
  geometry = k.geometry;
  lawful = k.lawful;
  refused = k.refused;
  durable = k.durable;
  mountable = λ is. record { lawful = k.lawful; holds = rw (k.geometry, kept-contents old new k) is.holds };
  array = λ is. rw (k.geometry, kept-contents old new k) refl;
}

-- ---- a survey

-- what knows a drive has looked at each of its zones
pub knows-fits : (drive : DriveState) (n : ℕ) (logs : List (List Batch)) (survey : Survey) → Knows drive n logs survey → Fits drive survey
knows-fits drive n logs survey is = record {
  zones = is.zones;
  scanned = omega (arith, length-map survey.scanned.items (λ (zone : ScannedZone). zone.heads), ap length is.heads, length-map logs heads_of, is.count, is.zones.count);
}

-- after a survey the drive is known by all of its logs
pub survey-knows : (old new : DriveState) (n : ℕ) (survey : Survey) → KeepsZones old new → Surveys old new n survey → Knows new n (drive_logs new) survey
survey-knows old new n survey k is = record {
  all_logs = rw (k.geometry, kept-contents old new k) is.scans.logs;
  count = length-map _ _ ∙ length-map _ _;
  part = λ zone. inl refl;
  sound = rw (kept-logs old new k) is.sound;
  reserve = rw (k.geometry, kept-contents old new k) is.reserve;
  size_is = is.size_is ∙ sym (rw (k.geometry, kept-contents old new k) refl);
  given_is = is.given_is;
  zones = is.zones;
  heads = is.scans.heads ∙ sym (rw (k.geometry, kept-contents old new k) refl);
  tails = is.scans.tails ∙ sym (rw (kept-contents old new k) refl);
}

-- if only the controller closed zones, the headers can still be read
pub can-kept : (old new : DriveState) (n : ℕ) → KeepsZones old new → CanScan old n → CanScan new n
can-kept old new n k can = record {
  geometry = rw k.geometry can.geometry;
  reserve = rw k.geometry can.reserve;
  usable = rw (kept-contents old new k) can.usable;
  few = rw (kept-contents old new k) can.few;
}

-- ---- the number that a survey holds is the one that was given

-- a drive that a survey knows is known by the number that the survey was given
pub known-own : (drive : DriveState) (n : ℕ) (logs : List (List Batch)) (survey : Survey) → Knows drive n logs survey → Knows drive survey.given logs survey
known-own drive n logs survey is = subst (λ (k : ℕ). Knows drive k logs survey) (sym is.given_is) is

-- a drive with a plan has it by the number that the survey was given
pub planned-own : (drive : DriveState) (n : ℕ) (survey : Survey) (plan : Plan) → IsPlanned drive n survey plan → IsPlanned drive survey.given survey plan
planned-own drive n survey plan is = subst (λ (k : ℕ). IsPlanned drive k survey plan) (sym is.known.given_is) is

-- a cleared drive is so by the number that the survey was given
pub cleared-own : (drive : DriveState) (n : ℕ) (survey : Survey) → IsCleared drive n survey → IsCleared drive survey.given survey
cleared-own drive n survey is = subst (λ (k : ℕ). IsCleared drive k survey) (sym is.known.given_is) is

-- a drive without torn zones is so by the number that the survey was given
pub untorn-own : (drive : DriveState) (n : ℕ) (survey : Survey) → IsUntorn drive n survey → IsUntorn drive survey.given survey
untorn-own drive n survey is = subst (λ (k : ℕ). IsUntorn drive k survey) (sym is.known.given_is) is

-- what keeps a drive mountable by a number keeps it so by an equal number
pub keeps-given : (k n : ℕ) (old new : DriveState) → k ≡ n → KeepsMountable k old new → KeepsMountable n old new
keeps-given k n old new same keeps = subst (λ (j : ℕ). KeepsMountable j old new) same keeps

-- the plan of a repair stays one if geometry, logs and tails stay
pub plan-given : (old new : DriveState) (n k : ℕ) (repair : Repair) → k ≡ n → new.geometry ≡ old.geometry → drive_logs new ≡ drive_logs old → zone_tails (contents new.zones) ≡ zone_tails (contents old.zones)
    → IsRepairPlan old.geometry n (drive_logs old) (zone_tails (contents old.zones)) repair → IsRepairPlan new.geometry k (drive_logs new) (zone_tails (contents new.zones)) repair
plan-given old new n k repair same geometry logs tails is =
    subst (λ (g : Geometry). IsRepairPlan g k (drive_logs new) (zone_tails (contents new.zones)) repair) (sym geometry)
    (subst (λ (ls : List (List Batch)). IsRepairPlan old.geometry k ls (zone_tails (contents new.zones)) repair) (sym logs)
    (subst (λ (ts : List Bool). IsRepairPlan old.geometry k (drive_logs old) ts repair) (sym tails) (subst (λ (j : ℕ). IsRepairPlan old.geometry j (drive_logs old) (zone_tails (contents old.zones)) repair) (sym same) is)))

-- ---- a cleared drive

-- after a clearing no zone is half clean
left-none : (block_bytes n : ℕ) (logs : List (List Batch)) (zones : List ℕ) → IsClearing block_bytes n logs zones → NoneBelow block_bytes n (cleared logs zones) (length (cleared logs zones))
left-none block_bytes n logs [] is = is
left-none block_bytes n logs (z ∷ zs) is = left-none block_bytes n _ zs is.1

logs-count : (drive : DriveState) → length (drive_logs drive) ≡ length drive.zones
logs-count drive = length-map _ _ ∙ length-map _ _

-- a cleared drive has a vacant zone
vacant-left : (drive : DriveState) (n : ℕ) (survey : Survey) → IsCleared drive n survey → HasVacant (drive_logs drive)
vacant-left drive n survey is = by is.mountable.holds.disk.spare
  where
    by : HasSpare drive.geometry.block n (drive_logs drive) → HasVacant (drive_logs drive)
    by spare = elim spare.spare as (λ _. HasVacant (drive_logs drive)) [
      | inl vacant ↦ record { zone = spare.zone; in_range = spare.in_range; vacant = vacant }
      | inr half ↦ absurd (is.none spare.zone (omega (arith, spare.in_range, logs-count drive)) half)
    ]

no-tail : has_torn_tail (record { usage = empty; blocks = [] }) ≡ false
unfolding has_torn_tail
no-tail = refl

empty-state : (state : ZoneState) → usage_of state ≡ empty → state ≡ states.Empty
empty-state states.Empty e = refl
empty-state states.ImplicitlyOpened e = absurd (cc)
empty-state states.ExplicitlyOpened e = absurd (cc)
empty-state states.Closed e = absurd (cc)
empty-state states.Full e = absurd (cc)
empty-state states.ReadOnly e = absurd (cc)
empty-state states.Offline e = absurd (cc)

held-none : (geometry : Geometry) (z : Zone) → IsLawfulZone geometry z → usage_of z.state ≡ empty → content_of z ≡ record { usage = empty; blocks = [] }
held-none geometry z lawful is =
    let state = empty-state z.state is in
    let none : MayHold states.Empty geometry.capacity (length z.blocks) = rw state at lawful.written in
    rw (state, nil_from_length z.blocks none) refl

lawful-empty : (geometry : Geometry) (zones : List Zone) (zone : ℕ) → AllByRecursion (IsLawfulZone geometry) zones → zone < length zones → (content_at (contents zones) zone).usage ≡ empty → content_at (contents zones) zone ≡ record { usage = empty; blocks = [] }
lawful-empty geometry [] zone all lt is = absurd (omega arith)
lawful-empty geometry (z ∷ zs) zero all lt is = held-none geometry z all.0 is
lawful-empty geometry (z ∷ zs) (suc zone) all lt is = lawful-empty geometry zs zone all.1 (omega arith) is

tails-map : (zones : List Content) (zone : ℕ) → get_or (zone_tails zones) zone false ≡ true → (zone < length zones) × (has_torn_tail (content_at zones zone) ≡ true)
tails-map [] zone e = absurd (cc)
tails-map (c ∷ cs) zero e = (omega arith, e)
tails-map (c ∷ cs) (suc zone) e = let rest = tails-map cs zone e in (omega (arith, rest.0), rest.1)

none-or-some : (log : List Batch) → (log ≡ []) ⊎ (log ≢ [])
none-or-some [] = inl refl
none-or-some (b ∷ bs) = inr (λ e. absurd (cc))

true-or-false : (b : Bool) → (b ≡ true) ⊎ (b ≡ false)
true-or-false true = inl refl
true-or-false false = inr refl

-- a zone that is Empty has no torn tail
empty-whole : (drive : DriveState) (n : ℕ) (survey : Survey) (zone : ℕ) → Knows drive n (drive_logs drive) survey → AreVacantEmpty survey.zones.items (drive_logs drive) → IsVacant (drive_logs drive) zone
    → get_or (zone_tails (contents drive.zones)) zone false ≡ true → ⊥
empty-whole drive n survey zone known empty_is vacant tail =
    let there = tails-map (contents drive.zones) zone tail in
    let none : ReportedZone = record { state = states.Offline; blocks = 0 } in
    let lt : zone < length drive.zones = omega (arith, there.0, length-map drive.zones content_of) in
    let at = there-is survey.zones.items zone none (omega (arith, lt, known.zones.count)) in
    let r = get_or survey.zones.items zone none in
    let is = known.zones.each zone r at in
    let usage : (content_at (contents drive.zones) zone).usage ≡ empty = is.usage ∙ rw (empty_is zone r at vacant) refl in
    let held = lawful-empty drive.geometry drive.zones zone known.zones.lawful.zones lt usage in
    let bad = there.1 in
    let good : has_torn_tail (content_at (contents drive.zones) zone) ≡ false = ap has_torn_tail held ∙ no-tail in
    absurd (cc)

-- a cleared drive without a torn zone needs no repair
pub untorn : (drive : DriveState) (n : ℕ) (survey : Survey) → IsCleared drive n survey → NoneIsTorn (drive_logs drive) (zone_tails (contents drive.zones)) → IsUntorn drive n survey
untorn drive n survey is none = record { known = is.known; mountable = is.mountable; empty = is.empty; whole = whole; spare = vacant-left drive n survey is }
  where
    whole : AreWhole (contents drive.zones)
    whole zone = elim (true-or-false (get_or (zone_tails (contents drive.zones)) zone false)) as (λ _. get_or (zone_tails (contents drive.zones)) zone false ≡ false) [
      | inr e ↦ e
      | inl tail ↦ (elim (none-or-some (log_at (drive_logs drive) zone)) as (λ _. get_or (zone_tails (contents drive.zones)) zone false ≡ false) [
        | inl vacant ↦ absurd (empty-whole drive n survey zone is.known is.empty vacant tail)
        | inr batch ↦ absurd (none zone (record { batch = batch; tail = tail }))
      ])
    ]

-- if no repair is planned, no zone is torn
pub plans-none : (geometry : Geometry) (n : ℕ) (logs : List (List Batch)) (tails : List Bool) (plan : Option Repair) → plan ≡ None → PlansRepair geometry n logs tails plan → NoneIsTorn logs tails
plans-none geometry n logs tails None e is = is
plans-none geometry n logs tails (Some repair) e is = absurd (cc)

-- ---- carrying out

tails-kept : (logs : List (List Batch)) (old new : List Bool) (zone : ℕ) → ((z : ℕ) → log_at logs z ≢ [] → get_or new z false ≡ get_or old z false) → IsTornAt logs new zone → IsTornAt logs old zone
tails-kept logs old new zone same is = record { batch = is.batch; tail = sym (same zone is.batch) ∙ is.tail }

tails-back : (logs : List (List Batch)) (old new : List Bool) (zone : ℕ) → ((z : ℕ) → log_at logs z ≢ [] → get_or new z false ≡ get_or old z false) → IsTornAt logs old zone → IsTornAt logs new zone
tails-back logs old new zone same is = record { batch = is.batch; tail = same zone is.batch ∙ is.tail }

plans-kept : (geometry : Geometry) (n : ℕ) (logs : List (List Batch)) (old new : List Bool) (plan : Option Repair) → ((z : ℕ) → log_at logs z ≢ [] → get_or new z false ≡ get_or old z false) → PlansRepair geometry n logs old plan → PlansRepair geometry n logs new plan
plans-kept geometry n logs old new None same is = λ zone torn. is zone (tails-kept logs old new zone same torn)
plans-kept geometry n logs old new (Some repair) same is = record {
  torn = record { torn = tails-back logs old new repair.zone same is.torn.torn; only = λ other torn. is.torn.only other (tails-kept logs old new other same torn) };
  fits = is.fits;
  blocks = is.blocks;
  placed = is.placed;
}

can-empty : (drive : DriveState) (n : ℕ) (survey : Survey) (plan : Plan) → IsPlanned drive n survey plan → CanEmpty drive n survey plan.vacant.items plan.half_clean.items
can-empty drive n survey plan planned = record { known = planned.known; to_empty = planned.vacant; clearing = planned.clearing }

-- the vacant zones of a plan were reset, and then the half clean ones: what is left of their batches
pub leaves-emptied : (old middle new : DriveState) (before survey after : Survey) (plan : Plan) (vacant half_clean : List ℕ) → IsPlanned old before.given before plan → vacant ≡ plan.vacant.items → ResetsAll old middle before survey vacant
    → half_clean ≡ plan.half_clean.items → ResetsAll middle new survey after half_clean → LeavesEmptied old new plan.half_clean.items
leaves-emptied old middle new before survey after plan vacant half_clean planned vacant_is one half_clean_is two =
    let all = plan.vacant.items in
    let can = can-empty old before.given before plan planned in
    let one' = subst (λ (zs : List ℕ). ResetsAll old middle before survey zs) vacant_is one in
    let two' = subst (λ (zs : List ℕ). ResetsAll middle new survey after zs) half_clean_is two in
    record {
      logs = logs-cleared old middle new before survey after before.given all plan.half_clean.items can one' two';
      others = written-stay old middle new before survey after all plan.half_clean.items one' two';
      opens = λ zone h. two.opens zone (one.opens zone h);
      tails = tails-emptied old middle new before survey after all plan.half_clean.items one' two';
    }

-- after an emptying
pub record Empties (old new : DriveState) (n : ℕ) (resets : List ℕ) (survey : Survey) : Type 0 where
  pub known : Knows new n (drive_logs new) survey
  pub logs : drive_logs new ≡ cleared (drive_logs old) resets
  pub vacant : AreVacantEmpty survey.zones.items (drive_logs new)
  pub tails : (zone : ℕ) → log_at (drive_logs new) zone ≢ [] → get_or (zone_tails (contents new.zones)) zone false ≡ get_or (zone_tails (contents old.zones)) zone false
  pub kept : KeepsMountable n old new

emptied-cleared : (old new : DriveState) (n : ℕ) (before survey : Survey) (plan : Plan) → IsPlanned old n before plan → Empties old new n plan.half_clean.items survey → IsCleared new n survey
emptied-cleared old new n before survey plan planned is = record {
  known = is.known;
  mountable = is.kept.mountable planned.mountable;
  none = none;
  empty = is.vacant;
}
  where
    none : NoneBelow new.geometry.block n (drive_logs new) (length new.zones)
    none = λ zone lt half. left-none old.geometry.block n (drive_logs old) plan.half_clean.items planned.clearing zone
        (omega (arith, lt, logs-count new, ap length is.logs)) (subst (λ (ls : List (List Batch)). IsHalfClean old.geometry.block n ls zone) is.logs (subst (λ (g : Geometry). IsHalfClean g.block n (drive_logs new) zone) is.kept.geometry half))

-- then the drive is cleared
pub leaves-cleared : (old middle new : DriveState) (before survey after : Survey) (plan : Plan) (vacant half_clean : List ℕ) → IsPlanned old before.given before plan → vacant ≡ plan.vacant.items → ResetsAll old middle before survey vacant
    → KeepsMountable before.given old middle → half_clean ≡ plan.half_clean.items → ResetsAll middle new survey after half_clean → KeepsMountable survey.given middle new → IsCleared new before.given after
leaves-cleared old middle new before survey after plan vacant half_clean planned vacant_is one first half_clean_is two second =
    let n = before.given in
    let all = plan.vacant.items in
    let can = can-empty old n before plan planned in
    let one' = subst (λ (zs : List ℕ). ResetsAll old middle before survey zs) vacant_is one in
    let two' = subst (λ (zs : List ℕ). ResetsAll middle new survey after zs) half_clean_is two in
    let kept = keeps-mountable-both n old middle new first (keeps-given survey.given n middle new one.given second) in
    emptied-cleared old new n before after plan planned (record {
      known = knows-cleared old middle new before survey after n all plan.half_clean.items can one' two' (kept.mountable planned.mountable);
      logs = logs-cleared old middle new before survey after n all plan.half_clean.items can one' two';
      vacant = vacant-emptied old middle new before survey after n all plan.half_clean.items can one' two';
      tails = tails-emptied old middle new before survey after all plan.half_clean.items one' two';
      kept = kept;
    })

-- a cleared drive is left by it
pub empties : (old new : DriveState) (n : ℕ) (resets : List ℕ) (survey : Survey) → IsCleared new n survey → LeavesEmptied old new resets → KeepsMountable n old new → Empties old new n resets survey
empties old new n resets survey now left kept = record { known = now.known; logs = left.logs; vacant = now.empty; tails = left.tails; kept = kept }

-- after the emptying the planned repair is still right
pub emptied-plans : (old new : DriveState) (n : ℕ) (before survey : Survey) (plan : Plan) → IsPlanned old n before plan → Empties old new n plan.half_clean.items survey
    → PlansRepair new.geometry n (drive_logs new) (zone_tails (contents new.zones)) plan.repair
emptied-plans old new n before survey plan planned is =
    subst (λ (g : Geometry). PlansRepair g n (drive_logs new) (zone_tails (contents new.zones)) plan.repair) (sym is.kept.geometry)
    (plans-kept old.geometry n (drive_logs new) (zone_tails (contents old.zones)) (zone_tails (contents new.zones)) plan.repair is.tails
    (subst (λ (ls : List (List Batch)). PlansRepair old.geometry n ls (zone_tails (contents old.zones)) plan.repair) (sym is.logs) planned.repair))

-- what is told of the repair of a drive that was given a number
abbrev pub TellsPlan : Geometry → Survey → Option Repair → ℕ → Type 0
TellsPlan geometry survey plan n = (drive : DriveState) (logs : List (List Batch)) → drive.geometry ≡ geometry → Knows drive n logs survey → PlansRepair geometry n logs (zone_tails (contents drive.zones)) plan

-- a fault is out of memory, or why the zones of a drive cannot be repaired
abbrev pub TellsNone : Geometry → Survey → MountFault → ℕ → Type 0
TellsNone geometry survey fault n =
    (fault ≡ faults.OutOfMemory) ⊎ ((drive : DriveState) (logs : List (List Batch)) → drive.geometry ≡ geometry → Knows drive n logs survey → CannotRepair geometry (encoded_size n logs) logs (zone_tails (contents drive.zones)) fault)

-- ---- planning

-- what a clearing in memory leaves
record HasSoundLogs (drive : DriveState) (n : ℕ) : Type 0 where
  logs : AllByRecursion (HasLog drive.geometry) (contents drive.zones)
  sound : AreSound (2 ^ 63) n (drive_logs drive)
  reserve : FitsReserve drive.geometry (drive_size drive n)

hold-disk : (drive : DriveState) (n : ℕ) → CanScan drive n → HasSoundLogs drive n → HasSpare drive.geometry.block n (drive_logs drive) → HoldDisk drive.geometry (contents drive.zones) n
hold-disk drive n can has spare = record { usable = can.usable; few_partial = can.few; logs = has.logs; sound = has.sound; reserve = has.reserve; spare = spare }

plan-repairs : (geometry : Geometry) (n : ℕ) (logs : List (List Batch)) (tails : List Bool) (plan : Option Repair) → PlansRepair geometry n logs tails plan → CanRepair geometry (2 ^ 63) (encoded_size n logs) logs tails
plan-repairs geometry n logs tails None none = record { one = λ a b torn other. absurd (none a torn); fits = λ a torn. absurd (none a torn) }
plan-repairs geometry n logs tails (Some repair) is = record {
  one = λ a b torn other. is.torn.only a torn ∙ sym (is.torn.only b other);
  fits = λ a torn. rw (is.torn.only a torn) is.fits;
}

-- a drive has a plan once its vacant zones, its clearing and its repair are found
pub planned : (old new : DriveState) (n : ℕ) (before survey : Survey) (plan : Plan) → CanScan old n → Knows old n (drive_logs old) before → KeepsZones old new → HasSpare old.geometry.block n (drive_logs old)
    → AreToEmpty (drive_logs old) before plan.vacant.items → survey.zones ≡ before.zones → IsClearing old.geometry.block n (drive_logs old) plan.half_clean.items
    → Knows new n (cleared (drive_logs old) plan.half_clean.items) survey
    → PlansRepair old.geometry n (cleared (drive_logs old) plan.half_clean.items) (zone_tails (contents old.zones)) plan.repair
    → IsPlanned new n survey plan
planned old new n before survey plan can known k spare vacant zones clearing after repair = record {
  mountable = record { lawful = k.lawful; holds = rw (k.geometry, kept-contents old new k) mountable };
  vacant = rw (kept-logs old new k) (record { vacant = vacant.vacant; needed = rw zones vacant.needed; others = rw zones vacant.others });
  clearing = rw (kept-logs old new k, k.geometry) clearing;
  known = rw (kept-logs old new k) after;
  repair = rw (kept-logs old new k, k.geometry, kept-contents old new k) repair;
}
  where
    logs : List (List Batch)
    logs = drive_logs old

    mountable : AreMountable old.geometry (contents old.zones) n
    mountable = record {
      disk = hold-disk old n can (record { logs = known.all_logs; sound = known.sound; reserve = known.reserve }) spare;
      repair = λ resets is.
          let same = one_clearing old.geometry.block n logs resets plan.half_clean.items is clearing in
          let size : encoded_size n (cleared logs plan.half_clean.items) ≡ encoded_size n logs = (clearing_keeps old.geometry.block (2 ^ 63) n logs plan.half_clean.items known.sound clearing).size_is in
          rw (same, ← size) (plan-repairs old.geometry n (cleared logs plan.half_clean.items) (zone_tails (contents old.zones)) plan.repair repair);
    }

plan-fault : (drive : DriveState) (n : ℕ) (resets : List ℕ) (fault : MountFault) → AreSound (2 ^ 63) n (drive_logs drive) → HasSpare drive.geometry.block n (drive_logs drive) → IsClearing drive.geometry.block n (drive_logs drive) resets
    → CannotRepair drive.geometry (encoded_size n (cleared (drive_logs drive) resets)) (cleared (drive_logs drive) resets) (zone_tails (contents drive.zones)) fault → PlanFails drive n fault
plan-fault drive n resets fault sound spare clearing is = by fault (subst (λ (k : ℕ). CannotRepair drive.geometry k (cleared (drive_logs drive) resets) (zone_tails (contents drive.zones)) fault) size is)
  where
    size : encoded_size n (cleared (drive_logs drive) resets) ≡ encoded_size n (drive_logs drive)
    size = (clearing_keeps drive.geometry.block (2 ^ 63) n (drive_logs drive) resets sound clearing).size_is

    by : (f : MountFault) → CannotRepair drive.geometry (drive_size drive n) (cleared (drive_logs drive) resets) (zone_tails (contents drive.zones)) f → PlanFails drive n f
    by faults.NoSpare bad = absurd bad
    by (faults.TornZone zone) bad = (spare, (resets, clearing, bad))
    by faults.Spent bad = (spare, (resets, clearing, bad))
    by faults.Reserve bad = absurd bad
    by faults.Limits bad = absurd bad
    by (faults.ZoneUnusable zone) bad = absurd bad
    by (faults.Log zone offset cause) bad = absurd bad
    by faults.SequenceRepeated bad = absurd bad
    by faults.BlockOutOfRange bad = absurd bad
    by faults.TooManyPartial bad = absurd bad
    by faults.Halted bad = absurd bad
    by faults.OutOfMemory bad = absurd bad
    by faults.Damaged bad = absurd bad
    by faults.Failed bad = absurd bad

-- a fault of planning the repair is a fault of the plan
pub repair-refused : (old new : DriveState) (n : ℕ) (resets : List ℕ) (survey : Survey) (fault : MountFault) (geometry : Geometry) → geometry ≡ old.geometry → KeepsZones old new → AreSound (2 ^ 63) n (drive_logs old)
    → HasSpare old.geometry.block n (drive_logs old) → IsClearing old.geometry.block n (drive_logs old) resets → Knows new n (cleared (drive_logs old) resets) survey
    → ((fault ≡ faults.OutOfMemory) ⊎ ((drive : DriveState) (logs : List (List Batch)) → drive.geometry ≡ geometry → Knows drive n logs survey → CannotRepair geometry (encoded_size n logs) logs (zone_tails (contents drive.zones)) fault))
    → FailsBy (PlanFails old n) new fault
repair-refused old new n resets survey fault geometry e k sound spare clearing known (inl memory) = inl memory
repair-refused old new n resets survey fault geometry e k sound spare clearing known (inr why) =
    inr (inr (plan-fault old n resets fault sound spare clearing (rw (kept-contents old new k, e) at (why new (cleared (drive_logs old) resets) (k.geometry ∙ sym e) known))))

-- ---- the mount

plan-mount : (drive : DriveState) (n : ℕ) (fault : MountFault) → CanScan drive n → HoldLogs drive.geometry (contents drive.zones) → HasSoundLogs drive n → PlanFails drive n fault → MountFails drive n fault
plan-mount drive n faults.NoSpare can logs has none = (can, logs, has.reserve, has.sound.inside, none)
plan-mount drive n (faults.TornZone zone) can logs has fails = (can, hold-disk drive n can has fails.0, fails.1)
plan-mount drive n faults.Spent can logs has fails = inr (can, hold-disk drive n can has fails.0, fails.1)
plan-mount drive n faults.Reserve can logs has fails = absurd fails.1.2
plan-mount drive n faults.Limits can logs has fails = absurd fails.1.2
plan-mount drive n (faults.ZoneUnusable zone) can logs has fails = absurd fails.1.2
plan-mount drive n (faults.Log zone offset cause) can logs has fails = absurd fails.1.2
plan-mount drive n faults.SequenceRepeated can logs has fails = absurd fails.1.2
plan-mount drive n faults.BlockOutOfRange can logs has fails = absurd fails.1.2
plan-mount drive n faults.TooManyPartial can logs has fails = absurd fails.1.2
plan-mount drive n faults.Halted can logs has fails = absurd fails.1.2
plan-mount drive n faults.OutOfMemory can logs has fails = absurd fails.1.2
plan-mount drive n faults.Damaged can logs has fails = absurd fails.1.2
plan-mount drive n faults.Failed can logs has fails = absurd fails.1.2

plan-back : (old new : DriveState) (n : ℕ) (fault : MountFault) → KeepsZones old new → PlanFails new n fault → PlanFails old n fault
plan-back old new n faults.NoSpare k none = λ spare. none (rw (kept-logs old new k, k.geometry) spare)
plan-back old new n (faults.TornZone zone) k fails = rw (k.geometry, kept-contents old new k) at fails
plan-back old new n faults.Spent k fails = rw (k.geometry, kept-contents old new k) at fails
plan-back old new n faults.Reserve k fails = absurd fails.1.2
plan-back old new n faults.Limits k fails = absurd fails.1.2
plan-back old new n (faults.ZoneUnusable zone) k fails = absurd fails.1.2
plan-back old new n (faults.Log zone offset cause) k fails = absurd fails.1.2
plan-back old new n faults.SequenceRepeated k fails = absurd fails.1.2
plan-back old new n faults.BlockOutOfRange k fails = absurd fails.1.2
plan-back old new n faults.TooManyPartial k fails = absurd fails.1.2
plan-back old new n faults.Halted k fails = absurd fails.1.2
plan-back old new n faults.OutOfMemory k fails = absurd fails.1.2
plan-back old new n faults.Damaged k fails = absurd fails.1.2
plan-back old new n faults.Failed k fails = absurd fails.1.2

-- a fault of the plan is a fault of the mount
pub plan-refused : (old new last : DriveState) (n : ℕ) (survey : Survey) (fault : MountFault) → KeepsZones old new → Surveys old new n survey → FailsBy (PlanFails new n) last fault → FailsBy (MountFails old n) last fault
plan-refused old new last n survey fault k is fails = fails-more (PlanFails new n) (MountFails old n) last fault back fails
  where
    back : (f : MountFault) → PlanFails new n f → MountFails old n f
    back f why = plan-mount old n f is.can (record { logs = is.scans.logs; none = is.scans.none }) (record { logs = is.scans.logs; sound = is.sound; reserve = is.reserve }) (plan-back old new n f k why)

-- ---- sequences

greatest-below : (limit : ℕ) (xs : List ℕ) → 1 ≤ limit → AllByRecursion (λ s. s < limit) xs → greatest_sequence xs < limit
greatest-below limit [] some all = omega (arith, some)
greatest-below limit (x ∷ xs) some all = omega (arith, all.0, greatest-below limit xs some all.1)

below-next : (next : ℕ) (xs : List ℕ) → greatest_sequence xs < next → AllByRecursion (λ s. s < next) xs
below-next next [] lt = tt
below-next next (x ∷ xs) lt = (omega (arith, lt), below-next next xs (omega (arith, lt)))

-- ---- mounted

-- zones that are noted as open make fillings that may be open
abbrev pub OpenByNeed : DriveState → List ℕ → DriveState → Survey → Type 0
OpenByNeed old resets new survey =
    (fs : List Filling) → AllByRecursion (λ (f : Filling). f.may_open ≡ true → IsNotedOpen survey.zones.items f.zone) fs → AllByRecursion (WasOpenOrTook old resets new) fs

-- what is known of a repaired drive before its tables are made
pub record Repaired (old new : DriveState) (n : ℕ) (survey : Survey) : Type 0 where
  pub can : IsToMount old n
  pub resets : List ℕ
  pub clearing : IsClearing old.geometry.block n (drive_logs old) resets
  pub left : LeavesCleared n old resets new
  pub kept : KeepsMountable n old new
  pub known : Knows new n (drive_logs new) survey
  pub repaired : IsRepaired new n survey
  pub zones : FinishesByNeed old resets new
  pub opened : OpenByNeed old resets new survey

-- a drive that was surveyed and planned is to be mounted
pub to-mount : (old middle third : DriveState) (n : ℕ) (first second : Survey) (plan : Plan) → IsLawful old → KeepsZones old middle → Surveys old middle n first → KeepsZones middle third → IsPlanned third n second plan → IsToMount old n
to-mount old middle third n first second plan lawful k is k' planned =
    let both = keeps-both old middle third k k' in
    record { geometry = is.can.geometry; reserve = is.can.reserve; mountable = record { lawful = lawful; holds = rw (both.geometry, kept-contents old third both) at planned.mountable.holds } }

-- a drive is repaired once it was surveyed and planned, and its plan carried out
pub repairs : (old middle third new : DriveState) (n : ℕ) (first second last : Survey) (plan : Plan) → IsLawful old → KeepsZones old middle → Surveys old middle n first → KeepsZones middle third → IsPlanned third n second plan
    → KeepsMountable n third new → Knows new n (drive_logs new) last → IsRepaired new n last → LeavesCleared n third plan.half_clean.items new
    → FinishesByNeed old plan.half_clean.items new → OpenByNeed old plan.half_clean.items new last → Repaired old new n last
repairs old middle third new n first second last plan lawful k is k' planned kept known repaired left zones opened =
    let both = keeps-both old middle third k k' in
    record {
      can = to-mount old middle third n first second plan lawful k is k' planned;
      resets = plan.half_clean.items;
      clearing = rw (kept-logs old third both, both.geometry) at planned.clearing;
      left = rw (kept-logs old third both, kept-contents old third both, both.geometry) at left;
      kept = keeps-mountable-both n old third new (closing-keeps old third n both) kept;
      known = known;
      repaired = repaired;
      zones = zones;
      opened = opened;
    }

-- the next sequence
pub record IsNextSequence (old new : DriveState) (next : ℕ) : Type 0 where
  pub is : next ≡ 1 + max (greatest_sequence (sequences (drive_logs old))) (greatest_sequence (sequences (drive_logs new)))
  pub above : AllByRecursion (λ s. s < next) (sequences (drive_logs new))
  pub small : next ≤ 2 ^ 63

-- the next sequence follows the greatest one in the headers before and after the repairs
pub next-is : (old new : DriveState) (n before now next : ℕ) (first last : Survey) → Repaired old new n last → heads_in first.scanned.items ≡ map heads_of (drive_logs old) → before ≡ greatest_sequence (sequences_in (heads_in first.scanned.items)) → now ≡ greatest_sequence (sequences_in (heads_in last.scanned.items))
    → next ≡ min (min (max now before + 1) (2 ^ 64 - 1)) (2 ^ 63) → IsNextSequence old new next
next-is old new n before now next first last is heads was are e =
    let a : before ≡ greatest_sequence (sequences (drive_logs old)) = was ∙ ap (λ (hs : List HeadsView). greatest_sequence (sequences_in hs)) heads ∙ ap greatest_sequence (sequences-kept (drive_logs old)) in
    let b : now ≡ greatest_sequence (sequences (drive_logs new)) = are ∙ ap (λ (hs : List HeadsView). greatest_sequence (sequences_in hs)) is.known.heads ∙ ap greatest_sequence (sequences-kept (drive_logs new)) in
    let a' = greatest-below (2 ^ 63) (sequences (drive_logs old)) (omega arith) is.can.mountable.holds.disk.sound.numbers in
    let b' = greatest-below (2 ^ 63) (sequences (drive_logs new)) (omega arith) is.known.sound.numbers in
    let same : next ≡ 1 + max (greatest_sequence (sequences (drive_logs old))) (greatest_sequence (sequences (drive_logs new))) = omega (arith, e, a, b, a', b') in
    record { is = same; above = below-next next (sequences (drive_logs new)) (omega (arith, same)); small = omega (arith, same, a', b') }

-- a repaired drive is mounted with tables that agree with it
pub mounts : (old new : DriveState) (n : ℕ) (survey : Survey) (tables : TablesView) → Repaired old new n survey → IsNextSequence old new tables.next → tables.given ≡ n → Agrees (mounted new tables) → AreMountedRoles new.geometry.capacity (contents new.zones) tables.roles
    → AllByRecursion (λ (f : Filling). f.may_open ≡ true → IsNotedOpen survey.zones.items f.zone) (fillings tables.roles) → Mounts old new n tables
mounts old new n survey tables is next given agrees roles noted = record {
  can = is.can;
  leaves = record { resets = is.resets; clearing = is.clearing; left = is.left; zones = is.zones };
  agrees = agrees;
  may_open = is.opened (fillings tables.roles) noted;
  roles = roles;
  given = given;
  array = is.kept.array is.can.mountable;
  next = next.is;
}

-- ---- what the parts of a plan say of this drive

-- zones to empty by the headers of a survey are zones to empty on its drive
pub to-empty : (drive : DriveState) (n : ℕ) (survey : Survey) (zones : List ℕ) → Knows drive n (drive_logs drive) survey
    → ((logs : List (List Batch)) → heads_in survey.scanned.items ≡ map heads_of logs → length survey.zones.items ≡ length logs → AreToEmpty logs survey zones) → AreToEmpty (drive_logs drive) survey zones
to-empty drive n survey zones known all = all (drive_logs drive) known.heads (omega (arith, known.zones.count, known.count))

-- a repair that is planned from the survey is right for the cleared drive
pub plans-of : (old new : DriveState) (n : ℕ) (resets : List ℕ) (survey : Survey) (plan : Option Repair) (geometry : Geometry) → geometry ≡ old.geometry → KeepsZones old new → Knows new n (cleared (drive_logs old) resets) survey
    → ((drive : DriveState) (logs : List (List Batch)) → drive.geometry ≡ geometry → Knows drive n logs survey → PlansRepair geometry n logs (zone_tails (contents drive.zones)) plan)
    → PlansRepair old.geometry n (cleared (drive_logs old) resets) (zone_tails (contents old.zones)) plan
plans-of old new n resets survey plan geometry e k known all = rw (kept-contents old new k, e) at (all new (cleared (drive_logs old) resets) (k.geometry ∙ sym e) known)

-- ---- faults

-- a fault of the repairs is out of memory, or a halt
pub carry-refused : (old third last : DriveState) (n : ℕ) (fault : MountFault) → FailsBy (λ _. ⊥) last fault → FailsBy (MountFails old n) last fault
carry-refused old third last n fault fails = fails-more (λ _. ⊥) (MountFails old n) last fault (λ f bad. absurd bad) fails

-- a fault of the repairs is nothing else than a halt or out of memory
pub carry-kept : (P : Type 0) (last : DriveState) (fault : MountFault) → FailsBy (λ _. ⊥) last fault → fault ≢ faults.Halted → fault ≢ faults.OutOfMemory → fault ≢ faults.Failed → P
carry-kept P last fault (inl memory) not_halted not_memory not_failed = absurd (not_memory memory)
carry-kept P last fault (inr (inl (inl halted))) not_halted not_memory not_failed = absurd (not_halted halted.0)
carry-kept P last fault (inr (inl (inr failed))) not_halted not_memory not_failed = absurd (not_failed failed.0)
carry-kept P last fault (inr (inr bad)) not_halted not_memory not_failed = absurd bad

-- ---- what is left

planned-left : (geometry : Geometry) (n : ℕ) (logs new : List (List Batch)) (tails : List Bool) (plan : Option Repair) → PlansRepair geometry n logs tails plan → LeavesPlanned geometry n logs plan new → LeavesRepaired geometry n logs tails new
planned-left geometry n logs new tails None none same = inl (none, same)
planned-left geometry n logs new tails (Some repair) is repaired = inr (repair.zone, is.torn, repaired)

-- carrying out a plan clears the half clean zones and repairs a torn one
pub carried-left : (old middle third new : DriveState) (n : ℕ) (resets : List ℕ) (plan : Option Repair) (survey : Survey) → Empties old middle n resets survey → PlansRepair old.geometry n (cleared (drive_logs old) resets) (zone_tails (contents old.zones)) plan
    → LeavesPlanned middle.geometry n (drive_logs middle) plan (drive_logs third) → drive_logs new ≡ drive_logs third → LeavesCleared n old resets new
carried-left old middle third new n resets plan survey is plans left same =
    rw same (planned-left old.geometry n (cleared (drive_logs old) resets) (drive_logs third) (zone_tails (contents old.zones)) plan plans (rw (is.logs, is.kept.geometry) at left))

-- without a torn zone nothing is repaired
no-repair : (geometry : Geometry) (n : ℕ) (logs : List (List Batch)) (tails : List Bool) (plan : Option Repair) → PlansRepair geometry n logs tails plan → NoneIsTorn logs tails → plan ≡ None
no-repair geometry n logs tails None is none = refl
no-repair geometry n logs tails (Some repair) is none = absurd (none repair.zone is.torn.torn)

-- a log that is left is unchanged
log-left : (logs : List (List Batch)) (resets : List ℕ) (zone : ℕ) → log_at (cleared logs resets) zone ≢ [] → log_at (cleared logs resets) zone ≡ log_at logs zone
log-left logs resets zone some = elim (set_all-parts logs logs resets [] [] zone) as (λ _. log_at (cleared logs resets) zone ≡ log_at logs zone) [
  | inl gone ↦ absurd (some (ap (λ (ls : List (List Batch)). log_at ls zone) (cleared-set_all logs resets) ∙ gone))
  | inr stays ↦ ap (λ (ls : List (List Batch)). log_at ls zone) (cleared-set_all logs resets) ∙ stays
]

-- if no zone is torn, carrying out a plan finishes no zone without need
pub carried-others : (old middle third new : DriveState) (n : ℕ) (resets : List ℕ) (plan : Option Repair) (survey : Survey) → Empties old middle n resets survey → PlansRepair old.geometry n (cleared (drive_logs old) resets) (zone_tails (contents old.zones)) plan
    → KeepsWritten old middle → (plan ≡ None → third ≡ middle) → KeepsGoing third new → KeepsOthers old resets new
carried-others old middle third new n resets plan survey is plans written same going none zone some goes =
    let third_is : third ≡ middle = same (no-repair old.geometry n (cleared (drive_logs old) resets) (zone_tails (contents old.zones)) plan plans none) in
    let log : log_at (drive_logs middle) zone ≡ log_at (drive_logs old) zone = ap (λ (ls : List (List Batch)). log_at ls zone) is.logs ∙ log-left (drive_logs old) resets zone some in
    let kept : content_at (contents middle.zones) zone ≡ content_at (contents old.zones) zone = written zone (λ gone. some (ap (λ (ls : List (List Batch)). log_at ls zone) (sym is.logs) ∙ gone)) in
    let still : CanBeFilled middle zone = λ partly. rw (log, is.kept.geometry, kept) (goes (rw kept at partly)) in
    let after : content_at (contents new.zones) zone ≡ content_at (contents middle.zones) zone = subst (λ (d : DriveState). KeepsGoing d new) third_is going zone still in
    after ∙ kept

-- if success gives a fact, it gives what follows from the fact
pub on-ok : (result : Result (Unit {0}) MountFault) (P Q : Type 0) → (P → Q) → OnOk result P → OnOk result Q
on-ok (Ok done) P Q f is = f is
on-ok (Err fault) P Q f is = tt

-- what is not some is none
pub none-planned : {X : Type 0} (o : Option X) → false ≡ is_some o → o ≡ None
none-planned None e = refl
none-planned (Some x) e = absurd (cc)
