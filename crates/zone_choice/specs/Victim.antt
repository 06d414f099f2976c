-- What a clean needs of a disk whose zones are all in use but one.
use Rattle.std.specs.Prelude.{◌≡◌, ℕ, ◌+◌, ◌≤◌, true, [], None}
use Rattle.logical_map.specs.Live.{live}
use Rattle.zone_choice.specs.Agreement.{Agrees, MountedView}
use Rattle.drive_array.specs.Reserve.{batch_most, move_blocks}
use Rattle.zone_choice.specs.Roles.{empty_count}
use Rattle.zone_choice.specs.Tables.{IsLeastSealed, can_be_cleaned}

-- one zone is empty, all others are sealed, and all data could be read
pub record IsInUse (disk : MountedView) : Type 0 where
  pub agrees : Agrees disk
  pub host : disk.tables.roles.host ≡ None
  pub second : disk.tables.roles.second ≡ None
  pub empty : empty_count disk.tables.roles ≡ 1
  pub readable : disk.tables.unreadable ≡ []

-- the live records of a zone can be moved to an empty one, with two of its blocks left
abbrev pub CanMove : MountedView → ℕ → Type 0
CanMove disk zone = move_blocks (batch_most disk.drive.geometry) (live disk.tables.map zone) + 2 ≤ disk.drive.geometry.capacity

-- then a zone can be cleaned, and the live records of the one that has the fewest can be moved
abbrev pub HasSealed : Type 0
HasSealed = (disk : MountedView) → IsInUse disk → (zone : ℕ) × (can_be_cleaned disk.tables zone ≡ true)

abbrev pub LeastCanMove : Type 0
LeastCanMove = (disk : MountedView) (zone : ℕ) → IsInUse disk → IsLeastSealed disk.tables zone → CanMove disk zone
