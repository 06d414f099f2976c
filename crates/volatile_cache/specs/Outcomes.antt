-- What a store with pending blocks above it is, and the arrays of which a cut of them leaves one.
use Rattle.std.specs.Prelude.{◌≡◌, ◌≤◌, ℕ, List, [], ◌∷◌, ◌++◌, set, true, Contains}
use Rattle.std.specs.List.{flat_map}
use Rattle.zone_translator.specs.Keeping.{KeepsServed}
use Rattle.zone_translator.specs.View.{disk_turns}
use Rattle.nbd_session.specs.Pending.{Pending}
use Rattle.nbd_session.specs.Store.{KeepsMode, PaysFor, StoreView, store_array, store_flat}

-- the arrays on which some of these blocks are written, in order: none, any or all of them
abbrev pub outcomes : List Pending → List (List ℕ) → List (List (List ℕ))
outcomes [] array = array ∷ []
outcomes (w ∷ ws) array = outcomes ws array ++ outcomes ws (set array w.place w.block)

-- a store with these blocks in a cache above it
abbrev pub cached : StoreView → List Pending → StoreView
cached below mine = record below { pending = below.pending ++ mine; since = flat_map (outcomes mine) below.since; defers = true }

-- a store above which blocks may be pending
abbrev pub deferring : StoreView → StoreView
deferring store = record store { defers = true }

-- Some pending blocks were applied. The store is as it was; it only has fewer arrays that a loss of power may leave.
pub record Settles (old new : StoreView) : Type 0 where
  pub flat : store_flat new ≡ store_flat old
  pub kept : KeepsServed old.disk new.disk
  pub durable : new.disk.drive.durable ≡ old.disk.drive.durable
  pub since : (array : List (List ℕ)) → Contains new.since array → Contains old.since array
  pub pending : (w : Pending) → Contains new.pending w → Contains old.pending w
  pub syncs : new.syncs ≡ old.syncs
  pub mode : KeepsMode old new
  pub turns : disk_turns new.disk ≤ disk_turns old.disk
  pub due : PaysFor old 0 new

-- a loss of power leaves the array as it is served, and nothing else
abbrev pub IsDurable : StoreView → Type 0
IsDurable store = (left : List (List ℕ)) → Contains store.since left → left ≡ store_array store
