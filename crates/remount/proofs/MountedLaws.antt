-- The tables of a repaired drive agree with it.
use Rattle.std.proofs.Common.{◌≡◌, ◌≢◌, inl, ℕ, zero, suc, ◌+◌, ◌<◌, ◌≤◌, ◌^◌, ◌&&◌, not, Bool, true, false, eqb, List, [], ◌∷◌, length, map, get_or, Option, Some, refl, sym, ap, subst, ◌∙◌, arith, append-nil}
use Rattle.std.specs.Prelude.{count_by, slice_get}
use Rattle.std.specs.List.{AllByRecursion, flat_map}
use Rattle.std.proofs.lemmas.Bool.{eqb-true}
use Rattle.std.proofs.lemmas.List.{length-map, nil_from_length}
use Rattle.nvme_wire.specs.declared.zone_state.ZoneState.{ZoneState}
use Rattle.nvme_wire.specs.declared.zone_state.ZoneState.TheVariants as states
use Rattle.zone_states.specs.declared.geometry.Geometry.{Geometry}
use Rattle.zone_states.specs.Transition.{is_open, is_state}
use Rattle.zone_states.specs.Zone.{IsLawfulZone}
use Rattle.drive_port.specs.Contents.{Content, Usage, active, empty, full, unusable, content_at, content_of, contents, emptied, is_active_usage, is_full, is_usable, is_writable, nothing, usage_of}
use Rattle.drive_port.specs.Drive.{DriveState, IsLawful}
use Rattle.drive_port.specs.Step.{nowhere, zone_at}
use Rattle.drive_port.proofs.ClosingLaws.{content_at-contents}
use Rattle.batch_log.specs.Log.{Batch, batch_blocks, log_size}
use Rattle.batch_log.proofs.LogLaws.{encoded_length}
use Rattle.logical_map.specs.Places.{MapView}
use Rattle.zone_choice.specs.declared.roles.Filling.{Filling}
use Rattle.zone_choice.specs.Agreement.{Agrees, HoldsFilling, IsSealed, RolesAgree, TellsOpen, mounted}
use Rattle.drive_array.specs.ZoneLogs.{HasLog, drive_logs, has_torn_tail, log_at, sequences, zone_log}
use Rattle.drive_array.specs.Mountable.{is_partly_written}
use Rattle.drive_array.specs.Records.{place}
use Rattle.drive_array.specs.Repair.{HasAtMost}
use Rattle.drive_array.specs.Reserve.{FitsReserve, batch_most}
use Rattle.zone_choice.specs.Roles.{RolesView, is_filling_at, mounted_as}
use Rattle.drive_array.specs.Sizes.{encoded_size, map_of}
use Rattle.zone_choice.specs.declared.unreadable.Unreadable.{Unreadable}
use Rattle.zone_choice.specs.Tables.{TablesView}
use Rattle.zone_choice.proofs.AgreementLaws.{tables_with}
use Rattle.drive_array.proofs.AllLaws.{all-at}
use Rattle.drive_array.proofs.SizeLaws.{told-length}
use Rattle.drive_array.proofs.ZoneLogLaws.{log_at-zone, readable-not_full, tail-at, whole-blocks, zone_log-read}
use Rattle.drive_survey.specs.declared.reported.ReportedZone.{ReportedZone}
use Rattle.drive_survey.specs.declared.survey.Survey.{Survey}
use Rattle.drive_survey.specs.Known.{Knows}
use Rattle.remount.specs.Mount.{AreMountedRoles, IsPlaced, IsRepaired}
use Rattle.remount.specs.Mounting.{FindsNext, FindsPartly, IsLowestPartly, MountsRoles, empties, is_partly_at, is_partly_found}
use Rattle.drive_survey.specs.Reported.{IsKnown}
use Rattle.drive_survey.specs.Scan.{AreKnown}
use Rattle.drive_survey.specs.Survey.{is_partly_reported}
use Rattle.drive_survey.proofs.AllScanLaws.{there-is}
use Rattle.remount.proofs.MountingLaws.{AreFew, all-partly, apart-mounted, count-one, count-three, empties-at, empties-past, length-empties, order-mounted, partly-active, partly-filling, state-empty, usage-empty}

-- ---- a zone and its report

record IsTold (drive : DriveState) (reported : List ReportedZone) (zone : ℕ) : Type 0 where
  r : ReportedZone
  there : slice_get reported zone ≡ Some r
  known : IsKnown drive zone r

told : (drive : DriveState) (reported : List ReportedZone) (zone : ℕ) → AreKnown drive reported → zone < length drive.zones → IsTold drive reported zone
told drive reported zone known lt =
    let d : ReportedZone = record { state = states.Empty; blocks = 0 } in
    let there = there-is reported zone d (omega (arith, lt, known.count)) in
    record { r = get_or reported zone d; there = there; known = known.each zone (get_or reported zone d) there }

active-usage : (u : Usage) → is_active_usage u ≡ true → u ≡ active
active-usage empty e = absurd (cc)
active-usage active e = refl
active-usage full e = absurd (cc)
active-usage unusable e = absurd (cc)

active-not_full : (drive : DriveState) (zone : ℕ) (r : ReportedZone) → IsKnown drive zone r → usage_of r.state ≡ active → is_full (content_at (contents drive.zones) zone).usage ≡ false
active-not_full drive zone r known is = let same = known.usage ∙ is in rw same refl

-- all blocks of a zone that is not full are read
active-blocks : (drive : DriveState) (zone : ℕ) (r : ReportedZone) → IsKnown drive zone r → usage_of r.state ≡ active → length (content_at (contents drive.zones) zone).blocks ≡ r.blocks
active-blocks drive zone r known is = sym (known.blocks ∙ ap length (readable-not_full drive.geometry (content_at (contents drive.zones) zone) (active-not_full drive zone r known is)))

partly-same : (drive : DriveState) (zone : ℕ) (r : ReportedZone) → IsKnown drive zone r → is_partly_written (content_at (contents drive.zones) zone) ≡ is_partly_reported r
partly-same drive zone r known = by (usage_of r.state) refl
  where
    c : Content
    c = content_at (contents drive.zones) zone

    other : (u : Usage) → usage_of r.state ≡ u → is_active_usage u ≡ false → (is_active_usage c.usage && not (eqb (length c.blocks) 0)) ≡ (is_active_usage (usage_of r.state) && not (eqb r.blocks 0))
    other u is never =
        let first : is_active_usage c.usage ≡ false = ap is_active_usage (known.usage ∙ is) ∙ never in
        let second : is_active_usage (usage_of r.state) ≡ false = ap is_active_usage is ∙ never in
        rw (first, second) refl

    by : (u : Usage) → usage_of r.state ≡ u → (is_active_usage c.usage && not (eqb (length c.blocks) 0)) ≡ (is_active_usage (usage_of r.state) && not (eqb r.blocks 0))
    by empty is = other empty is refl
    by active is = ap (λ (u : Usage). is_active_usage u && not (eqb (length c.blocks) 0)) known.usage ∙ ap (λ (k : ℕ). is_active_usage (usage_of r.state) && not (eqb k 0)) (active-blocks drive zone r known is)
    by full is = other full is refl
    by unusable is = other unusable is refl

-- a zone with an empty usage is as a Reset leaves it
content-emptied : (drive : DriveState) (zone : ℕ) → IsLawful drive → zone < length drive.zones → (content_at (contents drive.zones) zone).usage ≡ empty → content_at (contents drive.zones) zone ≡ emptied
content-emptied drive zone lawful lt is =
    let here = content_at-contents drive.zones zone in
    let state : (zone_at drive.zones zone).state ≡ states.Empty = usage-empty (zone_at drive.zones zone).state (sym (ap (λ (c : Content). c.usage) here) ∙ is) in
    let one = all-at (IsLawfulZone drive.geometry) drive.zones zone nowhere lawful.zones lt in
    let none : length (zone_at drive.zones zone).blocks ≡ 0 = rw state at one.written in
    let blocks : (zone_at drive.zones zone).blocks ≡ [] = nil_from_length (zone_at drive.zones zone).blocks none in
    here ∙ rw (state, blocks) refl

-- a zone without a block that is not full has no batch
none-logged : (drive : DriveState) (zone : ℕ) (r : ReportedZone) → IsKnown drive zone r → usage_of r.state ≡ active → r.blocks ≡ 0 → log_at (drive_logs drive) zone ≡ []
none-logged drive zone r known is none =
    let c = content_at (contents drive.zones) zone in
    let blocks : c.blocks ≡ [] = nil_from_length c.blocks (active-blocks drive zone r known is ∙ none) in
    log_at-zone drive.geometry (contents drive.zones) zone ∙ zone_log-read drive.geometry c [] (readable-not_full drive.geometry c (active-not_full drive zone r known is) ∙ blocks)

-- ---- the zones that are being filled

some-blocks : (n : ℕ) → n ≢ 0 → 1 ≤ n
some-blocks zero ne = absurd (ne refl)
some-blocks (suc n) ne = omega arith

partly-holds : (drive : DriveState) (n : ℕ) (survey : Survey) (from : ℕ) (f : Filling) → Knows drive n (drive_logs drive) survey → IsRepaired drive n survey → IsLowestPartly survey.zones.items from drive.geometry.zones f
    → HoldsFilling drive.geometry.capacity (contents drive.zones) (drive_logs drive) f
partly-holds drive n survey from f knows repaired found =
    let r = found.found in
    let known = knows.zones.each f.zone r found.there in
    let parts = partly-active r found.partly in
    let is = active-usage (usage_of r.state) parts.0 in
    let c = content_at (contents drive.zones) f.zone in
    let written : f.written ≡ r.blocks = ap (λ (g : Filling). g.written) found.is in
    let not_full = active-not_full drive f.zone r known is in
    let long = active-blocks drive f.zone r known is in
    let lt : f.zone < length (contents drive.zones) = omega (arith, known.in_range, length-map drive.zones content_of) in
    let has = all-at (HasLog drive.geometry) (contents drive.zones) f.zone nothing knows.all_logs lt in
    let untorn : has_torn_tail c ≡ false = sym (tail-at (contents drive.zones) f.zone lt) ∙ repaired.whole f.zone in
    let log = zone_log drive.geometry c in
    let whole = whole-blocks drive.geometry c knows.zones.lawful.geometry.block not_full has untorn in
    let count : log_size log ≡ length c.blocks = sym (ap length (whole.encoded ∙ append-nil (flat_map (batch_blocks drive.geometry.block) log)) ∙ encoded_length drive.geometry.block log whole.batches) in
    let usage : c.usage ≡ active = known.usage ∙ is in
    let some = some-blocks r.blocks parts.1 in
    record {
      written = long ∙ sym written;
      usage = inl (ap is_writable usage);
      batches = ap log_size (log_at-zone drive.geometry (contents drive.zones) f.zone) ∙ count ∙ long ∙ sym written;
      opened = λ open_is. omega (arith, written, some);
    }

partly-opens : (drive : DriveState) (reported : List ReportedZone) (from zones : ℕ) (f : Filling) → AreKnown drive reported → IsLowestPartly reported from zones f → TellsOpen drive.zones f
partly-opens drive reported from zones f known found =
    let may : f.may_open ≡ is_open found.found.state = ap (λ (g : Filling). g.may_open) found.is in
    λ shut. (known.each f.zone found.found found.there).shut (sym may ∙ shut)

partly-written : (drive : DriveState) (reported : List ReportedZone) (from zones : ℕ) (f : Filling) → AreKnown drive reported → IsLowestPartly reported from zones f → is_partly_written (content_at (contents drive.zones) f.zone) ≡ true
partly-written drive reported from zones f known found = partly-same drive f.zone found.found (known.each f.zone found.found found.there) ∙ found.partly

-- at most two zones are partly written
are-few : (drive : DriveState) (reported : List ReportedZone) → AreKnown drive reported → count_by is_partly_written (contents drive.zones) ≤ 2 → AreFew reported (length drive.zones)
are-few drive reported known few i j k lt after within is also last =
    let long = length-map drive.zones content_of in
    let count = count-three is_partly_written (contents drive.zones) nothing i j k lt after (omega (arith, within, long)) (found i (omega (arith, lt, after, within)) is) (found j (omega (arith, after, within)) also) (found k within last) in
    absurd (omega (arith, count, few))
  where
    found : (zone : ℕ) → zone < length drive.zones → is_partly_at reported zone ≡ true → is_partly_written (content_at (contents drive.zones) zone) ≡ true
    found zone lt is =
        let t = told drive reported zone known lt in
        partly-same drive zone t.r t.known ∙ sym (ap is_partly_found t.there) ∙ is

-- ---- the other zones

empty-content : (drive : DriveState) (reported : List ReportedZone) (zone : ℕ) → AreKnown drive reported → get_or (empties reported (length drive.zones)) zone false ≡ true → content_at (contents drive.zones) zone ≡ emptied
empty-content drive reported zone known is =
    let lt = empties-past reported (length drive.zones) zone is in
    let t = told drive reported zone known lt in
    let state : t.r.state ≡ states.Empty = state-empty t.r.state (sym (empties-at reported (length drive.zones) zone t.r lt t.there) ∙ is) in
    content-emptied drive zone known.lawful lt (t.known.usage ∙ ap usage_of state)

sealed-content : (drive : DriveState) (n : ℕ) (survey : Survey) (zone : ℕ) (host next : Option Filling) → Knows drive n (drive_logs drive) survey → IsRepaired drive n survey
    → FindsPartly survey.zones.items 0 (length drive.zones) host → FindsNext survey.zones.items (length drive.zones) host next → zone < length drive.zones
    → get_or (empties survey.zones.items (length drive.zones)) zone false ≡ false → is_filling_at (mounted_as (empties survey.zones.items (length drive.zones)) host next) zone ≡ false → IsSealed (contents drive.zones) (drive_logs drive) zone
sealed-content drive n survey zone host next knows repaired first second lt not_empty not_filling = by (usage_of t.r.state) refl
  where
    reported : List ReportedZone
    reported = survey.zones.items

    t : IsTold drive reported zone
    t = told drive reported zone knows.zones lt

    marked : t.r.state ≡ states.Empty → ⊥
    marked is =
        let yes : get_or (empties reported (length drive.zones)) zone false ≡ true = empties-at reported (length drive.zones) zone t.r lt t.there ∙ ap (λ (s : ZoneState). is_state s states.Empty) is in
        absurd (cc)

    logged : log_at (drive_logs drive) zone ≡ [] → ⊥
    logged none = marked (repaired.empty zone t.r t.there none)

    some-log : (log : List Batch) → log_at (drive_logs drive) zone ≡ log → 1 ≤ length log
    some-log [] is = absurd (logged is)
    some-log (b ∷ bs) is = omega arith

    partly : usage_of t.r.state ≡ active → (b : Bool) → eqb t.r.blocks 0 ≡ b → ⊥
    partly is true none = logged (none-logged drive zone t.r t.known is (eqb-true t.r.blocks 0 none))
    partly is false some =
        let written : is_partly_reported t.r ≡ true = rw (is, some) refl in
        let yes = partly-filling reported (length drive.zones) zone host next (are-few drive reported knows.zones repaired.few_partial) first second lt (ap is_partly_found t.there ∙ written) in
        absurd (cc)

    by : (u : Usage) → usage_of t.r.state ≡ u → IsSealed (contents drive.zones) (drive_logs drive) zone
    by empty is = absurd (marked (usage-empty t.r.state is))
    by active is = absurd (partly is (eqb t.r.blocks 0) refl)
    by full is = record { usage = t.known.usage ∙ is; has_batch = some-log (log_at (drive_logs drive) zone) refl }
    by unusable is = let no : is_usable (usage_of t.r.state) ≡ false = rw is refl in let yes = t.known.usable in absurd (cc)

-- ---- the roles

roles-agree : (drive : DriveState) (n : ℕ) (survey : Survey) (host next : Option Filling) → Knows drive n (drive_logs drive) survey → IsRepaired drive n survey
    → FindsPartly survey.zones.items 0 (length drive.zones) host → FindsNext survey.zones.items (length drive.zones) host next
    → RolesAgree drive.geometry.capacity (contents drive.zones) (drive_logs drive) (mounted_as (empties survey.zones.items (length drive.zones)) host next)
roles-agree drive n survey host next knows repaired first second = record {
  count = length-empties survey.zones.items (length drive.zones) ∙ sym (length-map drive.zones content_of);
  apart = apart-mounted survey.zones.items (length drive.zones) host next first second;
  fillings_are = all-partly (HoldsFilling drive.geometry.capacity (contents drive.zones) (drive_logs drive)) survey.zones.items (length drive.zones) host next
      (λ from f found. partly-holds drive n survey from f knows repaired (subst (λ (zones : ℕ). IsLowestPartly survey.zones.items from zones f) knows.zones.lawful.count found)) first second;
  empty = λ zone is. empty-content drive survey.zones.items zone knows.zones is;
  sealed_are = λ zone lt not_empty not_filling. sealed-content drive n survey zone host next knows repaired first second (omega (arith, lt, length-map drive.zones content_of)) not_empty not_filling;
}

vacant-count : (drive : DriveState) (n : ℕ) (survey : Survey) → Knows drive n (drive_logs drive) survey → IsRepaired drive n survey → 1 ≤ count_by (λ b. b) (empties survey.zones.items (length drive.zones))
vacant-count drive n survey knows repaired =
    let zone = repaired.vacant.zone in
    let lt : zone < length drive.zones = omega (arith, repaired.vacant.in_range, knows.count) in
    let t = told drive survey.zones.items zone knows.zones lt in
    let state = repaired.empty zone t.r t.there repaired.vacant.vacant in
    let yes : get_or (empties survey.zones.items (length drive.zones)) zone false ≡ true = empties-at survey.zones.items (length drive.zones) zone t.r lt t.there ∙ ap (λ (s : ZoneState). is_state s states.Empty) state in
    count-one (λ b. b) (empties survey.zones.items (length drive.zones)) false zone (omega (arith, lt, length-empties survey.zones.items (length drive.zones))) yes

mounted-roles : (drive : DriveState) (n : ℕ) (survey : Survey) (host next : Option Filling) → Knows drive n (drive_logs drive) survey → IsRepaired drive n survey
    → FindsPartly survey.zones.items 0 (length drive.zones) host → FindsNext survey.zones.items (length drive.zones) host next
    → AreMountedRoles drive.geometry.capacity (contents drive.zones) (mounted_as (empties survey.zones.items (length drive.zones)) host next)
mounted-roles drive n survey host next knows repaired first second = record {
  written = all-partly (λ (f : Filling). (is_partly_written (content_at (contents drive.zones) f.zone) ≡ true) × (f.written + 2 ≤ drive.geometry.capacity)) survey.zones.items (length drive.zones) host next room first second;
  order = order-mounted survey.zones.items (length drive.zones) host next first second;
  empty = vacant-count drive n survey knows repaired;
}
  where
    room : (from : ℕ) (f : Filling) → IsLowestPartly survey.zones.items from (length drive.zones) f → (is_partly_written (content_at (contents drive.zones) f.zone) ≡ true) × (f.written + 2 ≤ drive.geometry.capacity)
    room from f found =
        let partly = partly-written drive survey.zones.items from (length drive.zones) f knows.zones found in
        let holds = partly-holds drive n survey from f knows repaired (subst (λ (zones : ℕ). IsLowestPartly survey.zones.items from zones f) knows.zones.lawful.count found) in
        (partly, omega (arith, repaired.room f.zone partly, holds.written))

-- ---- the tables

agrees-with : (drive : DriveState) (n next : ℕ) (survey : Survey) (map : MapView) (host second : Option Filling) → Knows drive n (drive_logs drive) survey → IsRepaired drive n survey
    → AllByRecursion (λ sequence. sequence < next) (sequences (drive_logs drive)) → next ≤ 2 ^ 63
    → map.places ≡ map_of drive.geometry.size n (drive_logs drive) → map.zones ≡ drive.geometry.zones → map.zone_size ≡ drive.geometry.size
    → FindsPartly survey.zones.items 0 (length drive.zones) host → FindsNext survey.zones.items (length drive.zones) host second
    → Agrees (mounted drive (tables_with map (mounted_as (empties survey.zones.items (length drive.zones)) host second) next n []))
agrees-with drive n next survey map host second knows repaired below few_sequences places zones zone_size first after =
    let size : length map.places ≡ encoded_size n (drive_logs drive) = ap length places ∙ told-length (place drive.geometry.size) n (drive_logs drive) in
    record {
      geometry = knows.zones.geometry;
      reserve = subst (FitsReserve drive.geometry) (sym size) knows.reserve;
      lawful = knows.zones.lawful;
      logs = knows.all_logs;
      sound = record { numbers = below; inside = knows.sound.inside; distinct = knows.sound.distinct };
      next = few_sequences;
      zones = zones;
      zone_size = zone_size;
      places = places;
      roles = roles-agree drive n survey host second knows repaired first after;
      few = all-partly (λ (f : Filling). AllByRecursion (HasAtMost (batch_most drive.geometry)) (log_at (drive_logs drive) f.zone)) survey.zones.items (length drive.zones) host second
          (λ from f found. repaired.few f.zone (partly-written drive survey.zones.items from (length drive.zones) f knows.zones found)) first after;
      open_zones = all-partly (TellsOpen drive.zones) survey.zones.items (length drive.zones) host second (λ from f found. partly-opens drive survey.zones.items from (length drive.zones) f knows.zones found) first after;
      readable = λ up. refl;
    }

-- the tables that a mount makes of a repaired drive agree with it
pub mounted-agrees : (drive : DriveState) (geometry : Geometry) (n next : ℕ) (survey : Survey) (tables : TablesView) (roles : RolesView) → drive.geometry ≡ geometry → Knows drive n (drive_logs drive) survey → IsRepaired drive n survey
    → AllByRecursion (λ sequence. sequence < next) (sequences (drive_logs drive)) → next ≤ 2 ^ 63 → IsPlaced geometry n (drive_logs drive) tables → MountsRoles survey.zones.items geometry.zones roles
    → Agrees (mounted drive (tables_with tables.map roles next tables.given tables.unreadable))
mounted-agrees drive geometry n next survey tables roles same knows repaired below few placed mounts =
    let here : IsPlaced drive.geometry n (drive_logs drive) tables = subst (λ (g : Geometry). IsPlaced g n (drive_logs drive) tables) (sym same) placed in
    let count : geometry.zones ≡ length drive.zones = sym (knows.zones.lawful.count ∙ ap (λ (g : Geometry). g.zones) same) in
    let m : MountsRoles survey.zones.items (length drive.zones) roles = subst (λ (zones : ℕ). MountsRoles survey.zones.items zones roles) count mounts in
    let agrees = agrees-with drive n next survey tables.map m.host m.next knows repaired below few here.places here.zones here.zone_size m.host_is m.next_is in
    subst (λ (given : ℕ). Agrees (mounted drive (tables_with tables.map roles next given tables.unreadable))) (sym here.given)
    (subst (λ (lost : List Unreadable). Agrees (mounted drive (tables_with tables.map roles next n lost))) (sym here.unreadable)
    (subst (λ (rs : RolesView). Agrees (mounted drive (tables_with tables.map rs next n []))) (sym m.is) agrees))

-- by its roles a repaired drive fills partly written zones with room, and has an empty one
pub roles-mounted : (drive : DriveState) (geometry : Geometry) (n : ℕ) (survey : Survey) (roles : RolesView) → drive.geometry ≡ geometry → Knows drive n (drive_logs drive) survey → IsRepaired drive n survey
    → MountsRoles survey.zones.items geometry.zones roles → AreMountedRoles geometry.capacity (contents drive.zones) roles
roles-mounted drive geometry n survey roles same knows repaired mounts =
    let count : geometry.zones ≡ length drive.zones = sym (knows.zones.lawful.count ∙ ap (λ (g : Geometry). g.zones) same) in
    let m : MountsRoles survey.zones.items (length drive.zones) roles = subst (λ (zones : ℕ). MountsRoles survey.zones.items zones roles) count mounts in
    subst (λ (g : Geometry). AreMountedRoles g.capacity (contents drive.zones) roles) same
    (subst (λ (rs : RolesView). AreMountedRoles drive.geometry.capacity (contents drive.zones) rs) (sym m.is) (mounted-roles drive n survey m.host m.next knows repaired m.host_is m.next_is))
