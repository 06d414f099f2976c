-- A drive that holds a number of bytes.
use Rattle.std.specs.Prelude.{◌≡◌, ◌⊎◌, ℕ, ◌*◌, ◌<◌, ◌≤◌, ◌^◌, List, [], ◌∷◌, Contains}
use Rattle.zone_states.specs.declared.geometry.Geometry.{Geometry}
use Rattle.zone_states.specs.Geometry.{IsInRange}
use Rattle.write_plan.specs.Rows.{share_of}

-- zones of that many blocks of 4,096 bytes
abbrev pub planned_drive : ℕ → ℕ → Geometry
planned_drive zones capacity =
    record { block = 4096; zones = zones; size = capacity; capacity = capacity; transfer = 128; active = 8; «open» = 8 }

-- the largest zones that are planned
abbrev pub largest_zone : ℕ
largest_zone = 2 ^ 20

-- how many blocks the zones of a planned drive may have
abbrev pub zone_sizes : List ℕ
zone_sizes = 2 ^ 8 ∷ 2 ^ 10 ∷ 2 ^ 12 ∷ 2 ^ 14 ∷ 2 ^ 16 ∷ 2 ^ 18 ∷ largest_zone ∷ []

-- A drive that may be planned: it has 8 zones or more, and more than 1,024 only of the largest.
pub record IsPlanned (geometry : Geometry) : Type 0 where
  pub shape : geometry ≡ planned_drive geometry.zones geometry.capacity
  pub capacity : Contains zone_sizes geometry.capacity
  pub least : 8 ≤ geometry.zones
  pub most : geometry.capacity < largest_zone → geometry.zones ≤ 1024

-- 80 percent of the logical blocks that it can serve have as many bytes
abbrev pub HoldsBytes : ℕ → Geometry → Type 0
HoldsBytes bytes geometry = bytes ≤ share_of geometry 80 * geometry.block

-- so many zones of that many blocks hold the logical blocks, and fewer do not, unless they are 8
pub record IsFewest (blocks capacity zones : ℕ) : Type 0 where
  pub least : 8 ≤ zones
  pub holds : blocks ≤ share_of (planned_drive zones capacity) 80
  pub fewest : (others : ℕ) → 8 ≤ others → blocks ≤ share_of (planned_drive others capacity) 80 → zones ≤ others

-- the zones of the first are smaller, or they are of one size and no more
abbrev pub IsNoLarger : Geometry → Geometry → Type 0
IsNoLarger a b = (a.capacity < b.capacity) ⊎ ((a.capacity ≡ b.capacity) × (a.zones ≤ b.zones))

-- It holds the bytes, and is the least that does: no drive that may be planned and holds them has smaller zones, or
-- fewer of its size.
pub record IsDriveFor (bytes : ℕ) (geometry : Geometry) : Type 0 where
  pub range : IsInRange geometry
  pub planned : IsPlanned geometry
  pub holds : HoldsBytes bytes geometry
  pub least : (other : Geometry) → IsPlanned other → HoldsBytes bytes other → IsNoLarger geometry other

-- the greatest number of bytes for which there is a drive
abbrev pub most_planned : ℕ
most_planned = 2 ^ 42
