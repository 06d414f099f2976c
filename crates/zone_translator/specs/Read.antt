-- Why a read or a flush is refused, and which blocks one command reads.
use Rattle.std.specs.Prelude.{◌≡◌, ◌≢◌, ◌⊎◌, ℕ, ◌+◌, ◌-◌, ◌/◌, ◌<◌, ◌≤◌, List, [], ◌∷◌, Some, false, IsFalse, slice_index_or, true}
use Rattle.zone_states.specs.declared.geometry.Geometry.{Geometry}
use Rattle.logical_map.specs.declared.place.Place.{Place}
use Rattle.logical_map.specs.declared.place.Place.TheVariants as places
use Rattle.zone_choice.specs.Agreement.{MountedView}
use Rattle.zone_cleaner.specs.Clean.{trims}
use Rattle.drive_port.specs.Drive.{DriveState}
use Rattle.zone_translator.specs.declared.fault.DiskFault.{DiskFault}
use Rattle.zone_translator.specs.declared.fault.DiskFault.TheVariants.{OutOfMemory, Failed, Stopped}

abbrev pub IsReadFault : DriveState → DiskFault → Type 0
IsReadFault drive OutOfMemory = Unit {0}
IsReadFault drive Failed = IsFalse drive.unfailing
IsReadFault drive Stopped = drive.stopped ≡ true
IsReadFault drive fault = ⊥

-- the disk before, if what is durable were what is afterwards
abbrev pub hardened : MountedView → MountedView → MountedView
hardened before after = record before { drive = record before.drive { durable = after.drive.durable } }

-- of a block that has no data the drive is not asked, so no stop is seen there
pub record IsBlockFault (disk : MountedView) (block : ℕ) (fault : DiskFault) : Type 0 where
  pub cause : IsReadFault disk.drive fault
  pub stops : fault ≡ Stopped → trims (slice_index_or disk.tables.map.places block places.None) ≡ Some false

-- ---- neighbours

-- Blocks from one on have their data in a row: from an address on, in one zone, and no more than one command moves.
pub record AreNeighbours (geometry : Geometry) (all : List Place) (block address count : ℕ) : Type 0 where
  pub each : (k : ℕ) → k < count → slice_index_or all (block + k) places.None ≡ places.At (address + k)
  pub few : count ≤ geometry.transfer
  pub one_zone : address / geometry.size ≡ (address + count - 1) / geometry.size

-- One block more is not asked for, or is no neighbour of these.
abbrev pub EndsThere : Geometry → List Place → ℕ → ℕ → ℕ → ℕ → Type 0
EndsThere geometry all block address left count =
    (count ≡ left) ⊎ (count ≡ geometry.transfer) ⊎ (slice_index_or all (block + count) places.None ≢ places.At (address + count))
    ⊎ (address / geometry.size ≢ (address + count) / geometry.size)

-- What is read at once of the blocks that are left, by the place of the first: it and all its neighbours; or it alone,
-- if it has no data.
abbrev pub IsPieceAt : Geometry → List Place → ℕ → ℕ → ℕ → Place → Type 0
IsPieceAt geometry all block left count (places.At address) = AreNeighbours geometry all block address count × EndsThere geometry all block address left count
IsPieceAt geometry all block left count place = count ≡ 1

pub record IsPiece (geometry : Geometry) (all : List Place) (block left count : ℕ) : Type 0 where
  pub some : 1 ≤ count
  pub few : count ≤ left
  pub at : IsPieceAt geometry all block left count (slice_index_or all block places.None)

-- the blocks from one on, cut into such pieces
abbrev pub ArePieces : Geometry → List Place → ℕ → ℕ → List ℕ → Type 0
ArePieces geometry all block left [] = left ≡ 0
ArePieces geometry all block left (count ∷ counts) = IsPiece geometry all block left count × ArePieces geometry all (block + count) (left - count) counts
