-- What the parts of a disk's calls leave: one batch of a write, and one block of a read.
use Rattle.std.specs.Prelude.{◌≡◌, ℕ, ◌+◌, ◌≤◌, List, length, Some, slice_index_or, take, false}
use Rattle.logical_map.specs.declared.place.Place.TheVariants as places
use Rattle.zone_choice.specs.Changes.{sequence_end}
use Rattle.zone_cleaner.specs.Clean.{trims}
use Rattle.zone_translator.specs.declared.fault.DiskFault.{DiskFault}
use Rattle.zone_translator.specs.declared.fault.DiskFault.TheVariants.{Stopped}
use Rattle.zone_translator.specs.declared.status.DiskStatus.TheVariants as statuses
use Rattle.zone_translator.specs.declared.write.Rest.{Rest}
use Rattle.zone_translator.specs.Batches.{IsTaken, is_trim, rest_blocks}
use Rattle.zone_translator.specs.Calls.{status_left}
use Rattle.zone_translator.specs.Changes.{IsCause, Names}
use Rattle.zone_translator.specs.Flat.{IsFront, replaced}
use Rattle.zone_translator.specs.Read.{ArePieces, IsReadFault}
use Rattle.zone_translator.specs.View.{DiskView, KeepsDurable, disk_array, disk_size, disk_turns, next_sequence, disk_places, size_on}

-- One batch of a write took as many of the blocks that are left: they are in the array, and their records on the drive.
pub record WroteSome (old : DiskView) (rest : Rest) (new : DiskView) (count : ℕ) : Type 0 where
  pub taken : IsTaken old.drive.geometry rest count
  pub array : disk_array new ≡ replaced (disk_array old) rest.first (take count (rest_blocks old.drive.geometry rest))
  pub names : Names (is_trim rest.content) (disk_places old) rest.first count (disk_places new)
  pub says : size_on new ≡ Some (disk_size new)
  pub early : next_sequence new ≤ sequence_end old.drive.geometry
  pub serving : new.status ≡ statuses.Serving

-- A batch was refused: after a stop a front of the blocks that are left may be in the array, otherwise none.
pub record RefusedSome (old : DiskView) (rest : Rest) (new : DiskView) (fault : DiskFault) : Type 0 where
  pub status : new.status ≡ status_left fault
  pub front : IsFront (disk_array old) rest.first (rest_blocks old.drive.geometry rest) (disk_array new)
  pub cause : IsCause new.drive (next_sequence new) fault

-- a read changes nothing that a disk is asked for
pub record KeepsByRead (old new : DiskView) : Type 0 where
  pub kept : KeepsDurable old new
  pub array : disk_array new ≡ disk_array old
  pub size : disk_size new ≡ disk_size old
  pub places : disk_places new ≡ disk_places old
  pub turns : disk_turns new ≡ disk_turns old

-- Why one block was not read. A block without data is not asked for, so no stop is seen there.
pub record ReadStops (old : DiskView) (block : ℕ) (new : DiskView) (fault : DiskFault) : Type 0 where
  pub status : new.status ≡ status_left fault
  pub cause : IsReadFault new.drive fault
  pub stops : fault ≡ Stopped → trims (slice_index_or (disk_places old) block places.None) ≡ Some false

-- A read of n blocks from one on was done by one command at most for each piece.
pub record ReadsPieces (old : DiskView) (first n : ℕ) (new : DiskView) : Type 0 where
  pub counts : List ℕ
  pub are : ArePieces old.drive.geometry (disk_places old) first n counts
  pub completed : new.drive.completed ≤ old.drive.completed + length counts
