-- What the rows of a plan say.
use Rattle.std.specs.Prelude.{◌≡◌, ◌⊎◌, ℕ, ◌+◌, ◌*◌, ◌/◌, ◌<◌, ◌≤◌, max, List, [], ◌∷◌, map, length, Some, ⊤}
use Rattle.std.specs.List.{AllByRecursion}
use Rattle.std.specs.Int.{div_ceil}
use Rattle.zone_states.specs.declared.geometry.Geometry.{Geometry}
use Rattle.zone_states.specs.Checks.{first_failing}
use Rattle.zone_states.specs.Geometry.{IsInRange, geometry_checks}
use Rattle.drive_array.specs.Reserve.{FitsReserve, batch_most, most_size}
use Rattle.write_plan.specs.declared.fault.PlanFault.{PlanFault}
use Rattle.write_plan.specs.declared.fault.PlanFault.TheVariants.{Limits, Reserve, OutOfMemory}
use Rattle.write_plan.specs.declared.fault.PlanFault.TheVariants as faults
use Rattle.write_plan.specs.declared.aims.Aim.{Aim}
use Rattle.write_plan.specs.declared.aims.Aim.TheVariants.{Shares, Share, Blocks, Amplification}
use Rattle.write_plan.specs.declared.row.Row.{Row}

-- that many percent of the greatest number of logical blocks, and one at least
abbrev pub share_of : Geometry → ℕ → ℕ
share_of geometry percent = max (most_size geometry * percent / 100) 1

-- how many percent of the greatest number these are, to the nearest
abbrev pub percent_of : Geometry → ℕ → ℕ
percent_of geometry blocks = (200 * blocks + most_size geometry) / (2 * most_size geometry)

-- What the tables of a mounted disk take at most: a page of 256 places of 8 bytes, with what an allocation takes; 4
-- bytes for each block that can be written, in the lists of zones; and the counts and roles of each zone.
abbrev pub table_bytes : Geometry → ℕ → ℕ
table_bytes geometry blocks = 2080 * div_ceil blocks 256 + 4 * geometry.zones * geometry.capacity + 64 * geometry.zones

-- The row of a number of logical blocks that the drive can serve. A batch names at most `batch_most` blocks, and a mount reads each batch's header.
pub record IsRow (geometry : Geometry) (blocks : ℕ) (row : Row) : Type 0 where
  pub fits : FitsReserve geometry blocks
  pub blocks_is : row.blocks ≡ blocks
  pub share : row.share ≡ percent_of geometry blocks
  pub bytes : row.bytes ≡ blocks * geometry.block
  pub memory : row.memory ≡ table_bytes geometry blocks
  pub least_reads : row.least_reads ≡ div_ceil blocks (batch_most geometry)

-- each row is that of its number of blocks
abbrev pub AreRows : Geometry → List Row → Type 0
AreRows geometry rows = AllByRecursion (λ (row : Row). IsRow geometry row.blocks row) rows

-- the percents of a table
abbrev pub shares : List ℕ
shares = 50 ∷ 60 ∷ 70 ∷ 75 ∷ 80 ∷ 85 ∷ 90 ∷ 95 ∷ 99 ∷ 100 ∷ []

abbrev pub numbers_of : List Row → List ℕ
numbers_of rows = map (λ (row : Row). row.blocks) rows

-- The rows that were asked for: those of a table, of a share, or of a number of blocks. Of a write amplification that
-- is to be kept it is not said which numbers they have.
abbrev pub AreAimed : Geometry → Aim → List Row → Type 0
AreAimed geometry Shares rows = numbers_of rows ≡ map (share_of geometry) shares
AreAimed geometry (Share percent) rows = numbers_of rows ≡ share_of geometry percent ∷ []
AreAimed geometry (Blocks blocks) rows = numbers_of rows ≡ blocks ∷ []
AreAimed geometry (Amplification hundredths) rows = 1 ≤ length rows

-- why there is no plan
abbrev pub IsPlanFault : Geometry → Aim → PlanFault → Type 0
IsPlanFault geometry aim (Limits fault) = first_failing (geometry_checks geometry) ≡ Some fault
IsPlanFault geometry aim (Reserve most) = IsInRange geometry × (most ≡ most_size geometry)
    × ((blocks : ℕ) × (aim ≡ Blocks blocks) × (FitsReserve geometry blocks → ⊥))
IsPlanFault geometry aim faults.Share = (percent : ℕ) × (aim ≡ Share percent) × ((percent ≡ 0) ⊎ (100 < percent))
IsPlanFault geometry aim faults.Amplification = (hundredths : ℕ) × (aim ≡ Amplification hundredths)
IsPlanFault geometry aim OutOfMemory = ⊤
