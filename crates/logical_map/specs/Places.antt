-- A list of places, and which of its blocks are ready to be set.
use Rattle.std.specs.Prelude.{◌≡◌, ◌≢◌, ℕ, ◌-◌, Bool, true, false, List, ◌++◌, length, replicate, slice_index_or}
use Rattle.logical_map.specs.declared.place.Place.{Place}
use Rattle.logical_map.specs.declared.place.Place.TheVariants as places

-- the address of a place, 0 if none
abbrev pub place_address : Place → ℕ
place_address places.None = 0
place_address (places.Trimmed address) = address
place_address (places.At address) = address

-- where each block is, and whether its place can be set without an allocation; the drive's number of zones, and how many addresses a zone has
pub record MapView : Type 0 where
  pub places : List Place
  pub ready : List Bool
  pub zones : ℕ
  pub zone_size : ℕ

abbrev pub IsReady : MapView → ℕ → Type 0
IsReady m block = slice_index_or m.ready block false ≡ true

-- each block that has a place is ready
abbrev pub ArePlacedReady : MapView → Type 0
ArePlacedReady m = (block : ℕ) → slice_index_or m.places block places.None ≢ places.None → IsReady m block

-- one block more may be ready, and no place changes
pub record Reserves (old : MapView) (block : ℕ) (new : MapView) : Type 0 where
  pub places : new.places ≡ old.places
  pub here : IsReady new block
  pub kept : (other : ℕ) → IsReady old other → IsReady new other
  pub zones : new.zones ≡ old.zones
  pub zone_size : new.zone_size ≡ old.zone_size

-- there are more blocks, up to this count, and those have no place; the blocks that were ready still are
pub record MapGrows (old : MapView) (count : ℕ) (new : MapView) : Type 0 where
  pub places : new.places ≡ old.places ++ replicate (count - length old.places) places.None
  pub kept : (block : ℕ) → IsReady old block → IsReady new block
  pub zones : new.zones ≡ old.zones
  pub zone_size : new.zone_size ≡ old.zone_size
