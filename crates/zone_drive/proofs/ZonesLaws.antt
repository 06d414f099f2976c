-- Zones that a drive can have, and the tests of them.
use Rattle.std.proofs.Common.{◌≡◌, ℕ, ◌/◌, ◌%◌, ◌≤◌, Bool, true, false, eqb, ◌&&◌, List, [], ◌∷◌, length, refl, inl, inr, arith}
use Rattle.std.specs.List.{AllByRecursion, count_by, list_all}
use Rattle.std.proofs.lemmas.Bool.{eq-eqb, eqb-false, eqb-true, le-leb, leb-false, leb-true, lt-ltb, ltb-false, ltb-true, and_parts}
use Rattle.nvme_wire.specs.declared.zone_state.ZoneState.{ZoneState}
use Rattle.nvme_wire.specs.declared.zone_state.ZoneState.TheVariants.{Empty, ImplicitlyOpened, ExplicitlyOpened, Closed, ReadOnly, Full, Offline}
use Rattle.zone_states.specs.declared.geometry.Geometry.{Geometry}
use Rattle.zone_states.specs.Geometry.{IsInRange}
use Rattle.zone_states.specs.Stored.{AreWholeBlocks, StoredZone, zone_stored}
use Rattle.zone_states.specs.Transition.{is_active, is_open}
use Rattle.zone_states.specs.Zone.{IsLawfulZone, MayHold}
use Rattle.zone_states.proofs.Cutting.{length-cut}
use Rattle.zone_drive.specs.Stored.{AreZones, is_lawful, may_hold, zones_of}
use Rattle.zone_drive.proofs.CountLaws.{count-stored}
use Rattle.zone_drive.proofs.WriteLaws.{cut-whole}

-- the test of how many blocks a zone may hold is exact
pub may_hold-true : (state : ZoneState) (capacity written : ℕ) → may_hold state capacity written ≡ true → MayHold state capacity written
may_hold-true Empty capacity written e = eqb-true _ _ e
may_hold-true ImplicitlyOpened capacity written e = ltb-true _ _ e
may_hold-true ExplicitlyOpened capacity written e = ltb-true _ _ e
may_hold-true Closed capacity written e = ltb-true _ _ e
may_hold-true ReadOnly capacity written e = leb-true _ _ e
may_hold-true Full capacity written e = leb-true _ _ e
may_hold-true Offline capacity written e = leb-true _ _ e

pub may_hold-is : (state : ZoneState) (capacity written : ℕ) → MayHold state capacity written → may_hold state capacity written ≡ true
may_hold-is Empty capacity written h = eq-eqb written 0 h
may_hold-is ImplicitlyOpened capacity written h = lt-ltb written capacity h
may_hold-is ExplicitlyOpened capacity written h = lt-ltb written capacity h
may_hold-is Closed capacity written h = lt-ltb written capacity h
may_hold-is ReadOnly capacity written h = le-leb written capacity h
may_hold-is Full capacity written h = le-leb written capacity h
may_hold-is Offline capacity written h = le-leb written capacity h

may_hold-false : (state : ZoneState) (capacity written : ℕ) → may_hold state capacity written ≡ false → ¬ MayHold state capacity written
may_hold-false Empty capacity written e = eqb-false _ _ e
may_hold-false ImplicitlyOpened capacity written e = λ h. let le = ltb-false _ _ e in absurd (omega arith)
may_hold-false ExplicitlyOpened capacity written e = λ h. let le = ltb-false _ _ e in absurd (omega arith)
may_hold-false Closed capacity written e = λ h. let le = ltb-false _ _ e in absurd (omega arith)
may_hold-false ReadOnly capacity written e = λ h. let lt = leb-false _ _ e in absurd (omega arith)
may_hold-false Full capacity written e = λ h. let lt = leb-false _ _ e in absurd (omega arith)
may_hold-false Offline capacity written e = λ h. let lt = leb-false _ _ e in absurd (omega arith)

-- what the test of one zone says
zone-true : (geometry : Geometry) (zone : StoredZone) → 1 ≤ geometry.block → is_lawful geometry zone ≡ true → AreWholeBlocks geometry.block zone.bytes × IsLawfulZone geometry (zone_stored geometry.block zone)
zone-true geometry zone some e =
    let b = geometry.block in
    let n = length zone.bytes / b in
    let parts = and_parts (eqb (length zone.bytes % b) 0) (may_hold zone.state geometry.capacity n) e in
    let rest = eqb-true (length zone.bytes % b) 0 parts.0 in
    let whole : AreWholeBlocks b zone.bytes = omega (arith, rest, some) in
    (whole, record { written = rw (length-cut b n zone.bytes) (may_hold-true zone.state geometry.capacity n parts.1); whole = cut-whole b n zone.bytes whole })

zone-false : (geometry : Geometry) (zone : StoredZone) → 1 ≤ geometry.block → is_lawful geometry zone ≡ false → AreWholeBlocks geometry.block zone.bytes → ¬ IsLawfulZone geometry (zone_stored geometry.block zone)
zone-false geometry zone some e whole lawful =
    let b = geometry.block in
    let n = length zone.bytes / b in
    let rest : length zone.bytes % b ≡ 0 = omega (arith, whole, some) in
    may_hold-false zone.state geometry.capacity n (rw (eq-eqb (length zone.bytes % b) 0 rest) at e) (rw (length-cut b n zone.bytes) at lawful.written)

-- ---- all zones

zones-true : (geometry : Geometry) (zones : List StoredZone) → 1 ≤ geometry.block → list_all (is_lawful geometry) zones ≡ true
    → AllByRecursion (λ (zone : StoredZone). AreWholeBlocks geometry.block zone.bytes) zones × AllByRecursion (IsLawfulZone geometry) (zones_of geometry.block zones)
zones-true geometry [] some e = (tt, tt)
zones-true geometry (zone ∷ zones) some e =
    let parts = and_parts (is_lawful geometry zone) (list_all (is_lawful geometry) zones) e in
    let here = zone-true geometry zone some parts.0 in
    let rest = zones-true geometry zones some parts.1 in
    ((here.0, rest.0), (here.1, rest.1))

zones-false : (geometry : Geometry) (zones : List StoredZone) → 1 ≤ geometry.block → list_all (is_lawful geometry) zones ≡ false
    → AllByRecursion (λ (zone : StoredZone). AreWholeBlocks geometry.block zone.bytes) zones → ¬ AllByRecursion (IsLawfulZone geometry) (zones_of geometry.block zones)
zones-false geometry [] some e whole lawful = cc e
zones-false geometry (zone ∷ zones) some e whole lawful = either (is_lawful geometry zone) refl e (λ rest. zones-false geometry zones some rest whole.1 lawful.1)
  where
    either : (here : Bool) → is_lawful geometry zone ≡ here → (here && list_all (is_lawful geometry) zones) ≡ false → (list_all (is_lawful geometry) zones ≡ false → ⊥) → ⊥
    either true h rest none = none rest
    either false h rest none = zone-false geometry zone some h whole.0 lawful.0

-- no block is of no byte
pub block-some : (geometry : Geometry) → IsInRange geometry → 1 ≤ geometry.block
block-some geometry in_range = elim in_range.block [ inl small ↦ omega arith | inr large ↦ omega arith ]

-- what fails the test are no zones of the geometry
pub not-zones : (geometry : Geometry) (zones : List StoredZone) → IsInRange geometry → list_all (is_lawful geometry) zones ≡ false → ¬ AreZones geometry zones
not-zones geometry zones in_range e are = zones-false geometry zones (block-some geometry in_range) e are.whole are.lawful

-- what passes it, and the limits, are
pub are-zones : (geometry : Geometry) (zones : List StoredZone) (active open_zones : ℕ) → IsInRange geometry → length zones ≡ geometry.zones → list_all (is_lawful geometry) zones ≡ true
    → active ≡ count_by (λ (zone : StoredZone). is_active zone.state) zones → open_zones ≡ count_by (λ (zone : StoredZone). is_open zone.state) zones
    → active ≤ geometry.active → open_zones ≤ geometry.open → AreZones geometry zones
are-zones geometry zones active open_zones in_range count all a o active_most open_most =
    let parts = zones-true geometry zones (block-some geometry in_range) all in
    record {
      count = count;
      whole = parts.0;
      lawful = parts.1;
      active = omega (arith, a, count-stored is_active geometry.block zones, active_most);
      open_zones = omega (arith, o, count-stored is_open geometry.block zones, open_most);
    }
