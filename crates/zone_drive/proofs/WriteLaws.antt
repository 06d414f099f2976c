-- What a Write or an Append keeps and leaves of what is stored.
use Rattle.std.proofs.Common.{◌≡◌, ◌≢◌, ℕ, zero, suc, ◌+◌, ◌*◌, ◌/◌, ◌<◌, ◌≤◌, Bool, true, false, cond, eqb, List, [], ◌∷◌, ◌++◌, length, drop, set, get_or, None, refl, ap, ◌∙◌, arith}
use Rattle.std.specs.List.{AllByRecursion}
use Rattle.std.proofs.lemmas.Bool.{eqb-false, eqb-true, ltb-false, not-false}
use Rattle.std.proofs.lemmas.List.{get_or-map, length-append, length-drop, length-map, length-take-le, length-set, map-set}
use Rattle.nvme_wire.specs.declared.zone_state.ZoneState.{ZoneState}
use Rattle.nvme_wire.specs.declared.zone_state.ZoneState.TheVariants.{Empty, ImplicitlyOpened, ExplicitlyOpened, Closed, ReadOnly, Full, Offline}
use Rattle.zone_states.specs.declared.geometry.Geometry.{Geometry}
use Rattle.zone_states.specs.Checks.{first_failing}
use Rattle.zone_states.specs.Transition.{is_active, is_open}
use Rattle.zone_states.specs.Zone.{Zone, IsLawfulZone, MayHold, cut_blocks, opened_by_write, written_zone}
use Rattle.zone_states.specs.Writing.{append_bytes_checks}
use Rattle.zone_states.specs.Stored.{StoredZone, AreWholeBlocks, zone_stored}
use Rattle.drive_port.specs.Drive.{active_count, open_count}
use Rattle.drive_port.specs.Step.{nowhere, one_if, zone_at}
use Rattle.zone_drive.specs.Stored.{AreZones, zones_of}
use Rattle.zone_drive.specs.Table.{stored_at}
use Rattle.zone_states.proofs.Cutting.{length-cut}
use Rattle.zone_states.proofs.ListLaws.{all-set, all-at, all-append}
use Rattle.zone_drive.proofs.CountLaws.{active-set, open-set}

-- ---- lists

-- a stored zone in blocks
pub zone_at-stored : (block : ℕ) (zones : List StoredZone) (index : ℕ) (d : StoredZone) → index < length zones → zone_at (zones_of block zones) index ≡ zone_stored block (get_or zones index d)
zone_at-stored block zones index d lt = get_or-map (zone_stored block) zones index d nowhere lt

-- ---- one zone changed

-- a zone in blocks is the stored one
pub zone_at-is : (block : ℕ) (zones : List StoredZone) (index : ℕ) → index < length zones → zone_at (zones_of block zones) index ≡ zone_stored block (stored_at zones index)
zone_at-is block zones index lt = zone_at-stored block zones index (record { state = Offline; bytes = [] }) lt

-- each zone is lawful
pub lawful-at : (geometry : Geometry) (zones : List StoredZone) (index : ℕ) → AreZones geometry zones → index < length zones → IsLawfulZone geometry (zone_at (zones_of geometry.block zones) index)
lawful-at geometry zones index are lt =
    all-at (IsLawfulZone geometry) (zones_of geometry.block zones) index nowhere are.lawful (omega (arith, lt, length-map zones (zone_stored geometry.block)))

-- and holds whole blocks
pub whole-at : (geometry : Geometry) (zones : List StoredZone) (index : ℕ) → AreZones geometry zones → index < length zones → AreWholeBlocks geometry.block (stored_at zones index).bytes
whole-at geometry zones index are lt = all-at (λ (zone : StoredZone). AreWholeBlocks geometry.block zone.bytes) zones index (record { state = Offline; bytes = [] }) are.whole lt

-- a change of a state takes no resource that is not left
pub record Takes (geometry : Geometry) (zones : List Zone) (old new : ZoneState) : Type 0 where
  pub active : active_count zones + one_if (is_active new) ≤ geometry.active + one_if (is_active old)
  pub open_zones : open_count zones + one_if (is_open new) ≤ geometry.open + one_if (is_open old)

-- one zone is changed, and all are zones of the geometry again
pub are-set : (geometry : Geometry) (zones : List StoredZone) (index : ℕ) (new : StoredZone) → AreZones geometry zones → index < length zones
    → AreWholeBlocks geometry.block new.bytes → IsLawfulZone geometry (zone_stored geometry.block new)
    → Takes geometry (zones_of geometry.block zones) (stored_at zones index).state new.state → AreZones geometry (set zones index new)
are-set geometry zones index new are lt whole lawful takes =
    let b = geometry.block in
    let same : zones_of b (set zones index new) ≡ set (zones_of b zones) index (zone_stored b new) = map-set (zone_stored b) zones index new in
    let below : index < length (zones_of b zones) = omega (arith, lt, length-map zones (zone_stored b)) in
    let state = ap (λ (z : Zone). z.state) (zone_at-is b zones index lt) in
    record {
      count = length-set zones index new ∙ are.count;
      whole = all-set (λ (zone : StoredZone). AreWholeBlocks b zone.bytes) zones index new are.whole whole;
      lawful = rw same (all-set (IsLawfulZone geometry) (zones_of b zones) index (zone_stored b new) are.lawful lawful);
      active = rw same (omega (arith, takes.active, rw state at (active-set (zones_of b zones) index (zone_stored b new) below)));
      open_zones = rw same (omega (arith, takes.open_zones, rw state at (open-set (zones_of b zones) index (zone_stored b new) below)));
    }

-- ---- checks

-- none of the checks fails
abbrev pub AllPass : {F : Type 0} → List (Bool × F) → Type 0
AllPass [] = Unit {0}
AllPass (check ∷ checks) = (check.0 ≡ false) × AllPass checks

-- if no check fails, all pass
pub all-passed : {F : Type 0} (checks : List (Bool × F)) → None ≡ first_failing checks → AllPass checks
all-passed [] e = tt
all-passed ((true, f) ∷ checks) e = absurd (cc e)
all-passed ((false, f) ∷ checks) e = (refl, all-passed checks e)

-- ---- lawful zones

-- bytes are cut to whole blocks
pub cut-whole : (size n : ℕ) (bytes : List ℕ) → length bytes ≡ n * size → AllByRecursion (λ (block : List ℕ). length block ≡ size) (cut_blocks size n bytes)
cut-whole size zero bytes e = tt
cut-whole size (suc n) bytes e =
    let long : size ≤ length bytes = omega arith in
    (length-take-le size bytes long, cut-whole size n (drop size bytes) (omega (arith, length-drop size bytes)))

may_hold-written : (reached : Bool) (state : ZoneState) (capacity n : ℕ) → n ≤ capacity → (reached ≡ false → n ≢ capacity) → MayHold (cond reached Full (opened_by_write state)) capacity n
may_hold-written true state capacity n le ne = le
may_hold-written false Empty capacity n le ne = let apart = ne refl in omega arith
may_hold-written false ImplicitlyOpened capacity n le ne = let apart = ne refl in omega arith
may_hold-written false ExplicitlyOpened capacity n le ne = let apart = ne refl in omega arith
may_hold-written false Closed capacity n le ne = let apart = ne refl in omega arith
may_hold-written false ReadOnly capacity n le ne = le
may_hold-written false Full capacity n le ne = le
may_hold-written false Offline capacity n le ne = le

-- a zone with such blocks more is lawful
pub lawful-written : (geometry : Geometry) (zone : Zone) (bytes : List ℕ) → IsLawfulZone geometry zone → AreWholeBlocks geometry.block bytes
    → None ≡ first_failing (append_bytes_checks geometry zone bytes)
    → IsLawfulZone geometry (written_zone geometry.capacity zone (cut_blocks geometry.block (length bytes / geometry.block) bytes))
lawful-written geometry zone bytes lawful whole checks =
    let n = length bytes / geometry.block in
    let all = zone.blocks ++ cut_blocks geometry.block n bytes in
    let count : length all ≡ length zone.blocks + n = length-append zone.blocks (cut_blocks geometry.block n bytes) ∙ omega (arith, length-cut geometry.block n bytes) in
    let passed = all-passed (append_bytes_checks geometry zone bytes) checks in
    let room : length zone.blocks + n ≤ geometry.capacity = ltb-false _ _ passed.1.1.1.1.1.0 in
    record {
      written = may_hold-written (eqb (length all) geometry.capacity) zone.state geometry.capacity (length all) (omega arith) (eqb-false _ _);
      whole = all-append _ zone.blocks (cut_blocks geometry.block n bytes) lawful.whole (cut-whole geometry.block n bytes whole);
    }

-- data that passes its checks is whole blocks
pub whole-checked : (geometry : Geometry) (zone : Zone) (bytes : List ℕ) → None ≡ first_failing (append_bytes_checks geometry zone bytes) → AreWholeBlocks geometry.block bytes
whole-checked geometry zone bytes checks =
    let passed = all-passed (append_bytes_checks geometry zone bytes) checks in
    eqb-true _ _ (not-false _ passed.1.0)
