-- What is stored, and what a change of one zone keeps of it.
use Rattle.std.proofs.Common.{Bool, false, ◌≡◌, ℕ, zero, suc, [], replicate, refl, ◌∙◌, arith}
use Rattle.std.specs.List.{AllByRecursion}
use Rattle.std.proofs.Math.Nat.{zero-div}
use Rattle.std.proofs.lemmas.List.{length-replicate}
use Rattle.nvme_wire.specs.declared.zone_state.ZoneState.TheVariants.{Empty}
use Rattle.zone_states.specs.declared.geometry.Geometry.{Geometry}
use Rattle.zone_states.specs.Geometry.{IsInRange}
use Rattle.nvme_wire.specs.declared.zone_state.ZoneState.{ZoneState}
use Rattle.zone_states.specs.Transition.{is_active, is_open}
use Rattle.zone_states.specs.Zone.{Zone, IsLawfulZone}
use Rattle.zone_states.specs.Stored.{StoredZone, AreWholeBlocks, zone_stored}
use Rattle.zone_drive.specs.Stored.{AreZones, zones_of}
use Rattle.zone_drive.proofs.CountLaws.{count-cons, state_count}

-- ---- a fresh drive

-- an empty zone, as it is stored
abbrev pub empty_stored : StoredZone
empty_stored = record { state = Empty; bytes = [] }

-- and as it is seen
abbrev pub empty_zone : Zone
empty_zone = record { state = Empty; blocks = [] }

-- they are the same zone
zone_of-empty : (block : ℕ) → zone_stored block empty_stored ≡ empty_zone
zone_of-empty block = rw (zero-div block) refl

-- and so are many of them
pub zones_of-empty : (block n : ℕ) → zones_of block (replicate n empty_stored) ≡ replicate n empty_zone
zones_of-empty block zero = refl
zones_of-empty block (suc n) = rw (zone_of-empty block, zones_of-empty block n) refl

all_lawful : (geometry : Geometry) (n : ℕ) → AllByRecursion (IsLawfulZone geometry) (replicate n empty_zone)
all_lawful geometry zero = tt
all_lawful geometry (suc n) = (record { written = refl; whole = tt }, all_lawful geometry n)

all_whole : (block n : ℕ) → AllByRecursion (λ (zone : StoredZone). AreWholeBlocks block zone.bytes) (replicate n empty_stored)
all_whole block zero = tt
all_whole block (suc n) = (rw (zero-div block) (omega arith), all_whole block n)

none_counted : (p : ZoneState → Bool) (n : ℕ) → p Empty ≡ false → state_count p (replicate n empty_zone) ≡ 0
none_counted p zero none = refl
none_counted p (suc n) none = count-cons (λ (z : Zone). p z.state) empty_zone (replicate n empty_zone) ∙ rw none (omega (arith, none_counted p n none))

-- they are zones of the geometry
pub are-fresh : (geometry : Geometry) → IsInRange geometry → AreZones geometry (replicate geometry.zones empty_stored)
are-fresh geometry in_range = record {
  count = length-replicate geometry.zones empty_stored;
  whole = all_whole geometry.block geometry.zones;
  lawful = rw (zones_of-empty geometry.block geometry.zones) (all_lawful geometry geometry.zones);
  active = rw (zones_of-empty geometry.block geometry.zones, none_counted is_active geometry.zones refl) (omega arith);
  open_zones = rw (zones_of-empty geometry.block geometry.zones, none_counted is_open geometry.zones refl) (omega arith);
}
