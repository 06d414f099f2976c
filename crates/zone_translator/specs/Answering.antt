-- What the parts of a disk's calls keep whatever the Reads of its drive returned.
use Rattle.std.specs.Prelude.{◌≡◌, ℕ}
use Rattle.zone_choice.specs.Agreement.{MountedView}
use Rattle.zone_choice.specs.Builder.{BuilderView, IsBuilt}
use Rattle.zone_choice.specs.Changes.{built_for}
use Rattle.zone_choice.specs.Sane.{IsSane, KeepsShape, MayPlace}
use Rattle.zone_choice.specs.Tables.{size_of}

-- The shape of the drive is the same, and the numbers of the disk stay in range.
pub record StaysInRange (before after : MountedView) : Type 0 where
  pub shape : KeepsShape before.drive after.drive
  pub sane : IsSane after
  pub given : after.tables.given ≡ before.tables.given

-- and it has as many blocks
pub record StaysOfSize (before after : MountedView) : Type 0 where
  pub range : StaysInRange before after
  pub size : size_of after.tables ≡ size_of before.tables

-- a batch is built that may be sent to a zone
pub record MaySend (disk : MountedView) (zone : ℕ) (builder : BuilderView) : Type 0 where
  pub built_is : IsBuilt disk.drive.geometry.block builder
  pub may : MayPlace disk zone (built_for disk builder)
