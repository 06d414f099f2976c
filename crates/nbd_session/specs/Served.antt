-- A disk that is served, the medium that keeps its drive, whether it is read only, and whether it cleans.
use Rattle.std.specs.Prelude.{ℕ, Bool, true, false, List, [], ◌∷◌, map}
use Rattle.zone_states.specs.Zone.{Zone}
use Rattle.drive_array.specs.ZoneLogs.{encoded}
use Rattle.zone_translator.specs.View.{DiskView, disk_array, given_size}
use Rattle.nbd_session.specs.Store.{StoreView}

pub record ServedView (Medium : Type 0) : Type 0 where
  pub disk : DiskView
  pub medium : Medium
  pub read_only : Bool
  pub cleans : Bool

-- the array that the drive of a disk would encode with these zones
abbrev pub array_with : DiskView → List Zone → List (List ℕ)
array_with disk zones = encoded (record disk.drive { zones = zones }) (given_size disk)

-- The arrays that a loss of power may leave: of a disk that is flushed, those of the zones that are durable. A disk
-- whose medium keeps each command has no other array than the one that it serves.
abbrev pub since_of : Bool → DiskView → List (List (List ℕ))
since_of true disk = map (array_with disk) disk.drive.durable
since_of false disk = disk_array disk ∷ []

-- The store that a served disk is. It defers nothing, and the syncs are those of its medium, which fails in no other
-- call.
abbrev pub store_of : {M : Type 0} → (M → ℕ) → (M → Bool) → ServedView M → StoreView
store_of syncs flushes s = record {
  disk = s.disk;
  pending = [];
  since = since_of (flushes s.medium) s.disk;
  syncs = syncs s.medium;
  read_only = s.read_only;
  cleans = s.cleans;
  flushes = flushes s.medium;
  defers = false;
  fails = false;
}
