-- What it is to close all implicitly opened zones.
use Rattle.std.proofs.Common.{◌≡◌, ℕ, suc, ◌+◌, ◌<◌, ◌≤◌, Bool, true, false, cond, ltb, get_or, List, [], ◌∷◌, length, map, set, Some, None, refl, sym, ap, ◌∙◌, arith}
use Rattle.std.specs.List.{AllByRecursion, count_by, position, position_or_len}
use Rattle.std.proofs.lemmas.Bool.{ltb-false}
use Rattle.std.proofs.lemmas.List.{get_or-map, length-map, map-set, set-get_or}
use Rattle.std.proofs.lemmas.List.Quantifiers.{position-Some}
use Rattle.std.proofs.lemmas.List.Sums.{fails_before_first}
use Rattle.nvme_wire.specs.declared.zone_state.ZoneState.{ZoneState}
use Rattle.nvme_wire.specs.declared.zone_state.ZoneState.TheVariants.{ImplicitlyOpened, Closed, Offline}
use Rattle.nvme_wire.specs.declared.command.Action.TheVariants.{Close}
use Rattle.zone_states.specs.declared.geometry.Geometry.{Geometry}
use Rattle.zone_states.specs.Stored.{AreWholeBlocks, StoredZone, stored_after, zone_stored}
use Rattle.zone_states.specs.Transition.{is_active, is_open, is_state, state_after}
use Rattle.zone_states.specs.Zone.{IsLawfulZone, Zone}
use Rattle.drive_port.specs.Step.{one_if}
use Rattle.zone_drive.specs.Groups.{is_implicit}
use Rattle.zone_drive.specs.Habits.{close_implicit, closed_zone}
use Rattle.zone_drive.specs.Stored.{AreZones, zones_of}
use Rattle.zone_drive.specs.Table.{closed_stored, sent_in, stored_at}
use Rattle.zone_drive.proofs.CountLaws.{count-map, count-set}
use Rattle.zone_drive.proofs.RoomLaws.{is_state-implicit, none_found}

-- ---- one after the other

-- one of them closed: the rest is still to be done, and one fewer is left
pub record IsStep (zones : List StoredZone) (low : ℕ) : Type 0 where
  pub in_range : low < length zones
  pub rest : map closed_stored (sent_in zones low Close) ≡ map closed_stored zones
  pub fewer : count_by is_implicit (sent_in zones low Close) + 1 ≡ count_by is_implicit zones

-- the lowest zone is closed, and it continues
pub closes-step : (zones : List StoredZone) (low : ℕ) → Some low ≡ position is_implicit zones → IsStep zones low
closes-step zones low e =
    let none : StoredZone = record { state = Offline; bytes = [] } in
    let zone = stored_at zones low in
    let found = position-Some is_implicit zones low none (sym e) in
    let opened = is_state-implicit zone.state found.1 in
    let after : StoredZone = record { state = Closed; bytes = zone.bytes } in
    let is_after : stored_after Close zone (state_after zone.state Close) ≡ after = rw opened refl in
    let closes : closed_stored zone ≡ after = rw opened refl in
    let here : get_or (map closed_stored zones) low none ≡ after = get_or-map closed_stored zones low none none found.0 ∙ closes in
    let counts = count-set is_implicit zones low after none found.0 in
    let was = ap one_if found.1 in
    record {
      in_range = found.0;
      rest = rw is_after (map-set closed_stored zones low after ∙ ap (λ (z : StoredZone). set (map closed_stored zones) low z) (sym here) ∙ set-get_or (map closed_stored zones) low none);
      fewer = rw is_after (omega (arith, counts, was));
    }

none_left : (zones : List StoredZone) (none : StoredZone) → ((k : ℕ) → k < length zones → is_implicit (get_or zones k none) ≡ false) → map closed_stored zones ≡ zones
none_left [] none all = refl
none_left (zone ∷ zones) none all =
    rw (all 0 (omega arith), none_left zones none (λ k lt. all (suc k) (omega arith))) refl

-- if no zone is Implicitly Opened, nothing is closed
pub closes-none : (zones : List StoredZone) → None ≡ position is_implicit zones → map closed_stored zones ≡ zones
closes-none zones e =
    let none : StoredZone = record { state = Offline; bytes = [] } in
    let past : length zones ≤ position_or_len is_implicit zones = ltb-false _ _ (none_found (ltb (position_or_len is_implicit zones) (length zones)) _ e) in
    none_left zones none (λ k lt. fails_before_first is_implicit zones k none (omega (arith, past, lt)))

-- ---- in blocks

closed-stored : (block : ℕ) (zone : StoredZone) (implicit : Bool)
    → zone_stored block (cond implicit (record zone { state = Closed }) zone) ≡ cond implicit (closed_zone (zone_stored block zone)) (zone_stored block zone)
closed-stored block zone true = refl
closed-stored block zone false = refl

-- all of them are closed, as the zones are seen
pub zones_of-closed : (block : ℕ) (zones : List StoredZone) → zones_of block (map closed_stored zones) ≡ close_implicit (zones_of block zones)
zones_of-closed block [] = refl
zones_of-closed block (zone ∷ zones) = rw (closed-stored block zone (is_implicit zone), zones_of-closed block zones) refl

-- ---- zones that a drive can have

whole-closed : (block : ℕ) (zones : List StoredZone) → AllByRecursion (λ (zone : StoredZone). AreWholeBlocks block zone.bytes) zones → AllByRecursion (λ (zone : StoredZone). AreWholeBlocks block zone.bytes) (map closed_stored zones)
whole-closed block [] all = tt
whole-closed block (zone ∷ zones) all = (either (is_implicit zone), whole-closed block zones all.1)
  where
    either : (implicit : Bool) → AreWholeBlocks block (cond implicit (record zone { state = Closed }) zone).bytes
    either true = all.0
    either false = all.0

-- a zone that is closed where it is implicitly opened
abbrev close_one : Zone → Zone
close_one zone = cond (is_state ImplicitlyOpened zone.state) (closed_zone zone) zone

lawful-one : (geometry : Geometry) (zone : Zone) → IsLawfulZone geometry zone → IsLawfulZone geometry (close_one zone)
lawful-one geometry zone lawful = either (is_state ImplicitlyOpened zone.state) refl
  where
    either : (implicit : Bool) → is_state ImplicitlyOpened zone.state ≡ implicit → IsLawfulZone geometry (cond implicit (closed_zone zone) zone)
    either true e = record { written = rw (is_state-implicit zone.state e) at lawful.written; whole = lawful.whole }
    either false e = lawful

lawful-closed : (geometry : Geometry) (zones : List Zone) → AllByRecursion (IsLawfulZone geometry) zones → AllByRecursion (IsLawfulZone geometry) (close_implicit zones)
lawful-closed geometry [] all = tt
lawful-closed geometry (zone ∷ zones) all = (lawful-one geometry zone all.0, lawful-closed geometry zones all.1)

-- a closing takes no resource
resources-closed : (zone : Zone) → (one_if (is_active (close_one zone).state) ≤ one_if (is_active zone.state)) × (one_if (is_open (close_one zone).state) ≤ one_if (is_open zone.state))
resources-closed zone = fewer zone.state
  where
    after : ZoneState → ZoneState
    after state = (close_one (record { state = state; blocks = zone.blocks })).state

    fewer : (state : ZoneState) → (one_if (is_active (after state)) ≤ one_if (is_active state)) × (one_if (is_open (after state)) ≤ one_if (is_open state))
    fewer ImplicitlyOpened = (omega arith, omega arith)
    fewer state = (omega arith, omega arith)

-- they are zones of the geometry
pub are-closed : (geometry : Geometry) (zones : List StoredZone) → AreZones geometry zones → AreZones geometry (map closed_stored zones)
are-closed geometry zones are =
    let b = geometry.block in
    let same = zones_of-closed b zones in
    record {
      count = length-map zones closed_stored ∙ are.count;
      whole = whole-closed b zones are.whole;
      lawful = rw same (lawful-closed geometry (zones_of b zones) are.lawful);
      active = rw same (omega (arith, count-map is_active close_one (λ zone. (resources-closed zone).0) (zones_of b zones), are.active));
      open_zones = rw same (omega (arith, count-map is_open close_one (λ zone. (resources-closed zone).1) (zones_of b zones), are.open_zones));
    }
