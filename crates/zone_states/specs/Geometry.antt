-- The ranges of a geometry: this project's profile of a zoned namespace.
use Rattle.std.specs.Prelude.{◌≡◌, ◌⊎◌, ℕ, ◌≤◌, ◌^◌, ◌==◌, ◌||◌, ◌&&◌, not, nat_lt, Bool, List, [], ◌∷◌}
use Rattle.zone_states.specs.declared.geometry.Geometry.{Geometry}
use Rattle.zone_states.specs.declared.geometry.GeometryFault.{GeometryFault}
use Rattle.zone_states.specs.declared.geometry.GeometryFault.TheVariants.{Block, Zones, Size, Capacity, Transfer, Active, Open}

pub record IsInRange (g : Geometry) : Type 0 where
  pub block : (g.block ≡ 512) ⊎ (g.block ≡ 4096)
  pub zones : (3 ≤ g.zones) × (g.zones ≤ 65536)
  pub size : (1 ≤ g.size) × (g.size ≤ 2 ^ 20)
  pub capacity : (4 ≤ g.capacity) × (g.capacity ≤ g.size)
  pub transfer : (2 ≤ g.transfer) × (g.transfer ≤ 256)
  pub active : (2 ≤ g.active) × (g.active ≤ 65536)
  pub open_zones : (1 ≤ g.open) × (g.open ≤ g.active)

-- whether a number is outside a range
abbrev pub is_outside : ℕ → ℕ → ℕ → Bool
is_outside low high n = nat_lt n low || nat_lt high n

-- what is out of range, in the order in which it is looked at
abbrev pub geometry_checks : Geometry → List (Bool × GeometryFault)
geometry_checks g =
    (not (g.block == 512) && not (g.block == 4096), Block)
    ∷ (is_outside 3 65536 g.zones, Zones)
    ∷ (is_outside 1 (2 ^ 20) g.size, Size)
    ∷ (is_outside 4 g.size g.capacity, Capacity)
    ∷ (is_outside 2 256 g.transfer, Transfer)
    ∷ (is_outside 2 65536 g.active, Active)
    ∷ (is_outside 1 g.active g.open, Open)
    ∷ []
