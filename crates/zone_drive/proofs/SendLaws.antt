-- What an action keeps and leaves of what is stored.
use Rattle.std.proofs.Common.{◌≡◌, ◌≢◌, ℕ, zero, suc, ◌+◌, ◌<◌, ◌≤◌, Bool, true, false, cond, List, [], ◌∷◌, ◌++◌, length, map, take, drop, set, get_or, Result, Ok, Err, refl, ap, ◌∙◌, arith}
use Rattle.std.specs.List.{AllByRecursion}
use Rattle.std.proofs.lemmas.List.{length-map, map-set}
use Rattle.std.proofs.Math.Nat.{zero-div}
use Rattle.nvme_wire.specs.declared.zone_state.ZoneState.{ZoneState}
use Rattle.nvme_wire.specs.declared.zone_state.ZoneState.TheVariants.{Empty, ImplicitlyOpened, ExplicitlyOpened, Closed, ReadOnly, Full, Offline}
use Rattle.nvme_wire.specs.declared.command.Action.{Action}
use Rattle.nvme_wire.specs.declared.command.Action.TheVariants as actions
use Rattle.nvme_wire.specs.declared.status.Status.{Status}
use Rattle.zone_states.specs.declared.geometry.Geometry.{Geometry}
use Rattle.zone_states.specs.Geometry.{IsInRange}
use Rattle.zone_states.specs.Sending.{zone_after}
use Rattle.zone_states.specs.Stored.{AreWholeBlocks, StoredZone, stored_after, zone_stored}
use Rattle.zone_states.specs.Transition.{is_active, is_open, state_after}
use Rattle.zone_states.specs.Zone.{Zone, IsLawfulZone, MayHold}
use Rattle.drive_port.specs.Drive.{active_count, open_count}
use Rattle.drive_port.specs.Step.{is_selected, one_if, sent_zone}
use Rattle.zone_drive.specs.Sending.{sent_to}
use Rattle.zone_drive.specs.Stored.{AreZones, zones_of}
use Rattle.zone_drive.specs.Table.{sent_in, sent_stored, stored_at}
use Rattle.zone_drive.proofs.CountLaws.{count-map}
use Rattle.zone_drive.proofs.WriteLaws.{Takes, are-set, lawful-at, whole-at, zone_at-is}

may_hold-after : (state : ZoneState) (action : Action) (blocks : List (List ℕ)) (capacity : ℕ) → 4 ≤ capacity → MayHold state capacity (length blocks)
    → MayHold (zone_after action (record { state = state; blocks = blocks }) (state_after state action)).state capacity
    (length (zone_after action (record { state = state; blocks = blocks }) (state_after state action)).blocks)
may_hold-after Empty actions.Reset blocks capacity some h = refl
may_hold-after ImplicitlyOpened actions.Reset blocks capacity some h = refl
may_hold-after ExplicitlyOpened actions.Reset blocks capacity some h = refl
may_hold-after Closed actions.Reset blocks capacity some h = refl
may_hold-after Full actions.Reset blocks capacity some h = refl
may_hold-after ReadOnly actions.Reset blocks capacity some h = h
may_hold-after Offline actions.Reset blocks capacity some h = h
may_hold-after state action blocks capacity some h = omega arith

all-after : (P : List ℕ → Type 0) (action : Action) (zone : Zone) (next : Result ZoneState Status) → AllByRecursion P zone.blocks → AllByRecursion P (zone_after action zone next).blocks
all-after P actions.Reset zone (Ok state) all = tt
all-after P actions.Close zone (Ok state) all = all
all-after P actions.Finish zone (Ok state) all = all
all-after P actions.Open zone (Ok state) all = all
all-after P actions.Offline zone (Ok state) all = all
all-after P action zone (Err status) all = all

-- an action leaves a lawful zone
pub lawful-after : (geometry : Geometry) (zone : Zone) (action : Action) → IsInRange geometry → IsLawfulZone geometry zone → IsLawfulZone geometry (zone_after action zone (state_after zone.state action))
lawful-after geometry zone action in_range lawful = record {
  written = may_hold-after zone.state action zone.blocks geometry.capacity in_range.capacity.0 lawful.written;
  whole = all-after _ action zone (state_after zone.state action) lawful.whole;
}

-- whose blocks are whole
pub whole-after : (block : ℕ) (action : Action) (zone : StoredZone) (next : Result ZoneState Status) → AreWholeBlocks block zone.bytes → AreWholeBlocks block (stored_after action zone next).bytes
whole-after block actions.Reset zone (Ok state) whole = rw (zero-div block) (omega arith)
whole-after block actions.Close zone (Ok state) whole = whole
whole-after block actions.Finish zone (Ok state) whole = whole
whole-after block actions.Open zone (Ok state) whole = whole
whole-after block actions.Offline zone (Ok state) whole = whole
whole-after block action zone (Err status) whole = whole

-- as it is stored, and as it is seen
pub zone_of-after : (block : ℕ) (action : Action) (zone : StoredZone) (next : Result ZoneState Status) → zone_stored block (stored_after action zone next) ≡ zone_after action (zone_stored block zone) next
zone_of-after block actions.Reset zone (Ok state) = rw (zero-div block) refl
zone_of-after block actions.Close zone (Ok state) = refl
zone_of-after block actions.Finish zone (Ok state) = refl
zone_of-after block actions.Open zone (Ok state) = refl
zone_of-after block actions.Offline zone (Ok state) = refl
zone_of-after block action zone (Err status) = refl

-- ---- one zone

-- an action on one zone, as all are seen
pub zones_of-sent_in : (block : ℕ) (zones : List StoredZone) (index : ℕ) (action : Action) → index < length zones → zones_of block (sent_in zones index action) ≡ sent_to (zones_of block zones) index action
zones_of-sent_in block zones index action lt =
    let zone = stored_at zones index in
    map-set (zone_stored block) zones index (stored_after action zone (state_after zone.state action)) ∙ rw (zone_of-after block action zone (state_after zone.state action), zone_at-is block zones index lt) refl

-- they are zones of the geometry, where the resources suffice
are-sent_in : (geometry : Geometry) (zones : List StoredZone) (index : ℕ) (action : Action) → IsInRange geometry → AreZones geometry zones → index < length zones
    → Takes geometry (zones_of geometry.block zones) (stored_at zones index).state (stored_after action (stored_at zones index) (state_after (stored_at zones index).state action)).state
    → AreZones geometry (sent_in zones index action)
are-sent_in geometry zones index action in_range are lt takes =
    let b = geometry.block in
    let zone = stored_at zones index in
    let next = state_after zone.state action in
    let lawful = rw (zone_at-is b zones index lt) at (lawful-at geometry zones index are lt) in
    are-set geometry zones index (stored_after action zone next) are lt (whole-after b action zone next (whole-at geometry zones index are lt))
    (rw (zone_of-after b action zone next) (lawful-after geometry (zone_stored b zone) action in_range lawful)) takes

-- no action but an Open takes a resource
takes-sent : (geometry : Geometry) (zones : List Zone) (action : Action) (zone : StoredZone) → action ≢ actions.Open → active_count zones ≤ geometry.active → open_count zones ≤ geometry.open
    → Takes geometry zones zone.state (stored_after action zone (state_after zone.state action)).state
takes-sent geometry zones action zone other active_most open_most =
    let less = fewer action zone.state other in
    record { active = omega (arith, active_most, less.0); open_zones = omega (arith, open_most, less.1) }
  where
    after : Action → ZoneState → ZoneState
    after action state = (stored_after action (record { state = state; bytes = zone.bytes }) (state_after state action)).state

    fewer : (action : Action) (state : ZoneState) → action ≢ actions.Open → (one_if (is_active (after action state)) ≤ one_if (is_active state)) × (one_if (is_open (after action state)) ≤ one_if (is_open state))
    fewer actions.Open state other = absurd (other refl)
    fewer actions.Close Empty other = (omega arith, omega arith)
    fewer actions.Finish Empty other = (omega arith, omega arith)
    fewer actions.Reset Empty other = (omega arith, omega arith)
    fewer actions.Offline Empty other = (omega arith, omega arith)
    fewer action state other = (omega arith, omega arith)

-- as they do for all actions but an Open
pub are-sent : (geometry : Geometry) (zones : List StoredZone) (index : ℕ) (action : Action) → action ≢ actions.Open → IsInRange geometry → AreZones geometry zones → index < length zones
    → AreZones geometry (sent_in zones index action)
are-sent geometry zones index action other in_range are lt =
    are-sent_in geometry zones index action in_range are lt (takes-sent geometry (zones_of geometry.block zones) action (stored_at zones index) other are.active are.open_zones)

-- ---- all zones

-- one more element of a list is mapped
pub map-step : {X : Type 0} (f : X → X) (xs : List X) (i next : ℕ) (d : X) → i < length xs → next ≡ i + 1
    → set (map f (take i xs) ++ drop i xs) i (f (get_or (map f (take i xs) ++ drop i xs) i d)) ≡ map f (take next xs) ++ drop next xs
map-step f [] i next d lt e = absurd (omega arith)
map-step f (x ∷ xs) zero zero d lt e = absurd (omega arith)
map-step f (x ∷ xs) zero (suc next) d lt e = let one : next ≡ 0 = omega arith in rw one refl
map-step f (x ∷ xs) (suc i) zero d lt e = absurd (omega arith)
map-step f (x ∷ xs) (suc i) (suc next) d lt e = let rest = map-step f xs i next d (omega arith) (omega arith) in ap (λ zs. f x ∷ zs) rest

-- a zone of all, in blocks
sent-stored : (block : ℕ) (action : Action) (zone : StoredZone) (selected : Bool)
    → zone_stored block (cond selected (stored_after action zone (state_after zone.state action)) zone) ≡ cond selected (zone_after action (zone_stored block zone) (state_after zone.state action)) (zone_stored block zone)
sent-stored block action zone true = zone_of-after block action zone (state_after zone.state action)
sent-stored block action zone false = refl

-- an action on all zones, as they are seen
pub zones_of-sent : (block : ℕ) (action : Action) (zones : List StoredZone) → zones_of block (map (sent_stored action) zones) ≡ map (sent_zone action) (zones_of block zones)
zones_of-sent block action [] = refl
zones_of-sent block action (zone ∷ zones) = rw (sent-stored block action zone (is_selected action zone.state), zones_of-sent block action zones) refl

lawful-sent : (geometry : Geometry) (action : Action) (zones : List Zone) → IsInRange geometry → AllByRecursion (IsLawfulZone geometry) zones → AllByRecursion (IsLawfulZone geometry) (map (sent_zone action) zones)
lawful-sent geometry action [] in_range all = tt
lawful-sent geometry action (zone ∷ zones) in_range all = (either (is_selected action zone.state), lawful-sent geometry action zones in_range all.1)
  where
    either : (selected : Bool) → IsLawfulZone geometry (cond selected (zone_after action zone (state_after zone.state action)) zone)
    either true = lawful-after geometry zone action in_range all.0
    either false = all.0

whole-sent : (block : ℕ) (action : Action) (zones : List StoredZone) → AllByRecursion (λ (zone : StoredZone). AreWholeBlocks block zone.bytes) zones → AllByRecursion (λ (zone : StoredZone). AreWholeBlocks block zone.bytes) (map (sent_stored action) zones)
whole-sent block action [] all = tt
whole-sent block action (zone ∷ zones) all = (either (is_selected action zone.state), whole-sent block action zones all.1)
  where
    either : (selected : Bool) → AreWholeBlocks block (cond selected (stored_after action zone (state_after zone.state action)) zone).bytes
    either true = whole-after block action zone (state_after zone.state action) all.0
    either false = all.0

-- no action on all zones takes a resource
resources-sent : (action : Action) (zone : Zone) → (one_if (is_active (sent_zone action zone).state) ≤ one_if (is_active zone.state)) × (one_if (is_open (sent_zone action zone).state) ≤ one_if (is_open zone.state))
resources-sent action zone = fewer action zone.state
  where
    after : Action → ZoneState → ZoneState
    after action state = (sent_zone action (record { state = state; blocks = zone.blocks })).state

    fewer : (action : Action) (state : ZoneState) → (one_if (is_active (after action state)) ≤ one_if (is_active state)) × (one_if (is_open (after action state)) ≤ one_if (is_open state))
    fewer actions.Close Empty = (omega arith, omega arith)
    fewer actions.Finish Empty = (omega arith, omega arith)
    fewer actions.Open Empty = (omega arith, omega arith)
    fewer actions.Reset Empty = (omega arith, omega arith)
    fewer actions.Offline Empty = (omega arith, omega arith)
    fewer action state = (omega arith, omega arith)

-- they are zones of the geometry
pub are-all : (geometry : Geometry) (zones : List StoredZone) (action : Action) → IsInRange geometry → AreZones geometry zones → AreZones geometry (map (sent_stored action) zones)
are-all geometry zones action in_range are =
    let b = geometry.block in
    let same = zones_of-sent b action zones in
    record {
      count = length-map zones (sent_stored action) ∙ are.count;
      whole = whole-sent b action zones are.whole;
      lawful = rw same (lawful-sent geometry action (zones_of b zones) in_range are.lawful);
      active = rw same (omega (arith, count-map is_active (sent_zone action) (λ zone. (resources-sent action zone).0) (zones_of b zones), are.active));
      open_zones = rw same (omega (arith, count-map is_open (sent_zone action) (λ zone. (resources-sent action zone).1) (zones_of b zones), are.open_zones));
    }
