-- The lowest implicitly opened zone, and what it is to close it.
use Rattle.std.proofs.Common.{◌≡◌, ◌≢◌, ℕ, suc, ◌+◌, ◌≤◌, Bool, true, false, cond, not, ltb, get_or, List, [], ◌∷◌, length, set, Option, Some, None, IfSome, IfNone, refl, sym, ◌∙◌, arith}
use Rattle.std.specs.List.{position, position_or_len}
use Rattle.std.proofs.lemmas.Bool.{ltb-false}
use Rattle.std.proofs.lemmas.List.{length-map, set_past, get_or-map, get_or-set_other}
use Rattle.std.proofs.lemmas.List.Quantifiers.{position-Some}
use Rattle.nvme_wire.specs.declared.zone_state.ZoneState.{ZoneState}
use Rattle.nvme_wire.specs.declared.zone_state.ZoneState.TheVariants.{Empty, ImplicitlyOpened, ExplicitlyOpened, Closed, ReadOnly, Full, Offline}
use Rattle.nvme_wire.specs.declared.command.Action.TheVariants.{Close}
use Rattle.nvme_wire.specs.declared.status.Status.TheVariants.{TooManyOpenZones}
use Rattle.zone_states.specs.declared.geometry.Geometry.{Geometry}
use Rattle.zone_states.specs.Transition.{is_state, state_after}
use Rattle.zone_states.specs.Zone.{Zone}
use Rattle.zone_states.specs.Stored.{StoredZone, zone_stored}
use Rattle.zone_states.specs.Checks.{first_failing}
use Rattle.zone_states.specs.Sending.{zone_after}
use Rattle.drive_port.specs.Step.{nowhere, resource_checks, zone_at}
use Rattle.zone_drive.specs.Choice.{IsLowestOpened, close_lowest}
use Rattle.zone_drive.specs.Groups.{is_implicit}
use Rattle.zone_drive.specs.Habits.{closed_zone}
use Rattle.zone_drive.specs.Stored.{zones_of}

-- what is found to be Implicitly Opened is so
pub is_state-implicit : (state : ZoneState) → is_state ImplicitlyOpened state ≡ true → state ≡ ImplicitlyOpened
is_state-implicit ImplicitlyOpened e = refl
is_state-implicit Empty e = absurd (cc e)
is_state-implicit ExplicitlyOpened e = absurd (cc e)
is_state-implicit Closed e = absurd (cc e)
is_state-implicit ReadOnly e = absurd (cc e)
is_state-implicit Full e = absurd (cc e)
is_state-implicit Offline e = absurd (cc e)

-- one zone in front of zones of which the first n are passed over
closes-cons : (b : Bool) (zone : Zone) (zones : List Zone) (n : ℕ) → close_lowest zones ≡ set zones n (closed_zone (zone_at zones n))
    → cond b (closed_zone zone ∷ zones) (zone ∷ close_lowest zones) ≡ set (zone ∷ zones) (cond (not b) (1 + n) 0) (closed_zone (zone_at (zone ∷ zones) (cond (not b) (1 + n) 0)))
closes-cons true zone zones n e = refl
closes-cons false zone zones n e = let next : 1 + n ≡ suc n = omega arith in rw (next, e) refl

closes-at : (block : ℕ) (zones : List StoredZone)
    → close_lowest (zones_of block zones) ≡ set (zones_of block zones) (position_or_len is_implicit zones) (closed_zone (zone_at (zones_of block zones) (position_or_len is_implicit zones)))
closes-at block [] = refl
closes-at block (zone ∷ zones) = closes-cons (is_implicit zone) (zone_stored block zone) (zones_of block zones) (position_or_len is_implicit zones) (closes-at block zones)

-- what a search found, or didn't
some_found : (b : Bool) (n low : ℕ) → Some low ≡ cond b (Some n) None → low ≡ n
some_found true n low e = cc
some_found false n low e = absurd (cc e)

-- where a test finds nothing, it failed
pub none_found : (b : Bool) (n : ℕ) → None ≡ cond b (Some n) None → b ≡ false
none_found true n e = absurd (cc e)
none_found false n e = refl

-- the first that is found is the lowest
lowest-Some : (block : ℕ) (zones : List StoredZone) (low : ℕ) → Some low ≡ position is_implicit zones → IsLowestOpened (zones_of block zones) low
lowest-Some block zones low e =
    let found = position-Some is_implicit zones low (record { state = Offline; bytes = [] }) (sym e) in
    let here : zone_at (zones_of block zones) low ≡ zone_stored block (get_or zones low (record { state = Offline; bytes = [] })) = get_or-map (zone_stored block) zones low _ nowhere found.0 in
    let same : low ≡ position_or_len is_implicit zones = some_found (ltb (position_or_len is_implicit zones) (length zones)) _ low e in
    record {
      in_range = omega (arith, found.0, length-map zones (zone_stored block));
      opened = rw here (is_state-implicit _ found.1);
      closes = rw same (closes-at block zones);
    }

-- where it finds none, there is none to close
lowest-None : (block : ℕ) (zones : List StoredZone) → None ≡ position is_implicit zones → close_lowest (zones_of block zones) ≡ zones_of block zones
lowest-None block zones e =
    let past : length zones ≤ position_or_len is_implicit zones = ltb-false _ _ (none_found (ltb (position_or_len is_implicit zones) (length zones)) _ e) in
    closes-at block zones ∙ set_past (zones_of block zones) (position_or_len is_implicit zones) _ (omega (arith, past, length-map zones (zone_stored block)))

-- both, of the search as it is
pub lowest-gives : (block : ℕ) (zones : List StoredZone) (found : Option ℕ) → found ≡ position is_implicit zones → IfSome found (λ low. IsLowestOpened (zones_of block zones) low)
lowest-gives block zones (Some low) e = lowest-Some block zones low e
lowest-gives block zones None e = tt

-- if none is found, there is none to close
pub lowest-lacks : (block : ℕ) (zones : List StoredZone) (found : Option ℕ) → found ≡ position is_implicit zones → IfNone found (close_lowest (zones_of block zones) ≡ zones_of block zones)
lowest-lacks block zones (Some low) e = tt
lowest-lacks block zones None e = lowest-None block zones e

-- ---- a zone that gets the resource of the one that is closed

-- a zone for which another one is closed is not open itself
pub apart : (geometry : Geometry) (zones : List Zone) (index low : ℕ) → Some TooManyOpenZones ≡ first_failing (resource_checks geometry zones (zone_at zones index)) → IsLowestOpened zones low → index ≢ low
apart geometry zones index low wants lowest = λ same.
    let opened : (zone_at zones index).state ≡ ImplicitlyOpened = rw same lowest.opened in
    cc (rw opened at wants)

-- a Close of such a zone leaves it Closed
pub closes-one : (zone : Zone) → zone.state ≡ ImplicitlyOpened → zone_after Close zone (state_after zone.state Close) ≡ closed_zone zone
closes-one zone e = rw e refl

-- a zone that is not closed
pub zone_at-closing : (zones : List Zone) (index low : ℕ) → index ≢ low → IsLowestOpened zones low → zone_at (close_lowest zones) index ≡ zone_at zones index
zone_at-closing zones index low away lowest = rw lowest.closes (get_or-set_other zones low index (closed_zone (zone_at zones low)) nowhere away)
