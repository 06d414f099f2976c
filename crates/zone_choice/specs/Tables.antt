-- What a mounted disk knows of its drive.
use Rattle.std.specs.Prelude.{◌≡◌, ℕ, ◌+◌, ◌≤◌, ◌<◌, ◌==◌, Bool, true, false, ◌&&◌, not, nat_lt, if◌then◌else◌, List, [], length, replicate, slice_index, slice_index_or, Option, Some, None}
use Rattle.std.specs.List.{AllByRecursion, list_any}
use Rattle.logical_map.specs.Live.{lies_in, live}
use Rattle.logical_map.specs.Places.{IsReady, MapView}
use Rattle.logical_map.specs.declared.place.Place.{Place}
use Rattle.logical_map.specs.declared.place.Place.TheVariants as places
use Rattle.zone_choice.specs.declared.unreadable.Unreadable.{Unreadable}
use Rattle.zone_choice.specs.Roles.{RolesView, is_sealed_at, unused_roles}
use Rattle.drive_array.specs.Sizes.{extended}

-- where the newest record of each block is, what the zones are for, the sequence of the next batch, the number of
-- logical blocks that the mount was given (the drive has as many if no header has a size), and which data could not be
-- read since
pub record TablesView : Type 0 where
  pub map : MapView
  pub roles : RolesView
  pub next : ℕ
  pub given : ℕ
  pub unreadable : List Unreadable

-- The tables of a drive of that many empty zones, with that many addresses each. None of the n blocks is written.
pub record AreOfEmptyDrive (count addresses n number : ℕ) (tables : TablesView) : Type 0 where
  pub places : tables.map.places ≡ replicate n places.None
  pub zones : tables.map.zones ≡ count
  pub zone_size : tables.map.zone_size ≡ addresses
  pub roles : tables.roles ≡ unused_roles count
  pub next : tables.next ≡ 1
  -- what the mount was given
  pub given : tables.given ≡ number
  -- all could be read
  pub unreadable : tables.unreadable ≡ []

-- how many logical blocks there are
abbrev pub size_of : TablesView → ℕ
size_of tables = length tables.map.places

-- the tables with these places of all blocks
abbrev pub with_places : TablesView → List Place → TablesView
with_places tables all = record tables { map = record tables.map { places = all } }

-- how many live records each zone of the drive has
pub record AreLive (map : MapView) (counts : List ℕ) : Type 0 where
  pub long : length counts ≡ map.zones
  pub each : (zone : ℕ) → zone < map.zones → slice_index counts zone ≡ live map zone

-- the block's data is at this address
abbrev pub is_data_at : ℕ → Place → Bool
is_data_at address (places.At other) = other == address
is_data_at address place = false

-- data that could not be read is in the zone, and is still that of its block
abbrev pub is_lost_in : MapView → ℕ → Unreadable → Bool
is_lost_in map zone lost = lies_in map.zone_size zone (places.At lost.address) && is_data_at lost.address (slice_index_or map.places lost.block places.None)

-- a zone is left out as long as it has such data
abbrev pub is_left_out : TablesView → ℕ → Bool
is_left_out tables zone = list_any (is_lost_in tables.map zone) tables.unreadable

-- A zone can be cleaned: it is sealed, and not left out
abbrev pub can_be_cleaned : TablesView → ℕ → Bool
can_be_cleaned tables zone = is_sealed_at tables.roles zone && not (is_left_out tables zone)

-- Of the zones below a bound that can be cleaned, this one has the fewest live records, and is the lowest of equals.
pub record IsLeastBelow (tables : TablesView) (end zone : ℕ) : Type 0 where
  pub below : zone < end
  pub can : can_be_cleaned tables zone ≡ true
  pub least : (other : ℕ) → other < end → can_be_cleaned tables other ≡ true → live tables.map zone ≤ live tables.map other
  pub lowest : (other : ℕ) → other < zone → can_be_cleaned tables other ≡ true → live tables.map zone < live tables.map other

-- The zone can be cleaned. Of all that can, none has fewer live records, and those with a lower number have more.
pub record IsLeastSealed (tables : TablesView) (zone : ℕ) : Type 0 where
  pub can : can_be_cleaned tables zone ≡ true
  pub least : (other : ℕ) → can_be_cleaned tables other ≡ true → live tables.map zone ≤ live tables.map other
  pub lowest : (other : ℕ) → other < zone → can_be_cleaned tables other ≡ true → live tables.map zone < live tables.map other

-- the zone of this kind among those below a bound, if there is one
abbrev pub FindsLeastSealed : TablesView → ℕ → Option ℕ → Type 0
FindsLeastSealed tables end None = (zone : ℕ) → zone < end → can_be_cleaned tables zone ≡ false
FindsLeastSealed tables end (Some zone) = IsLeastBelow tables end zone

-- a zone has fewer live records than another one, if there is one
abbrev pub has_fewer : MapView → ℕ → Option ℕ → Bool
has_fewer map zone None = true
has_fewer map zone (Some other) = nat_lt (live map zone) (live map other)

-- a zone, if it can be cleaned and has fewer live records than another one, and else that one
abbrev pub lesser : TablesView → Option ℕ → ℕ → Option ℕ
lesser tables other zone = if can_be_cleaned tables zone && has_fewer tables.map zone other then Some zone else other

-- the data that could not be read is of blocks of the map
abbrev pub AreOfBlocks : MapView → List Unreadable → Type 0
AreOfBlocks map lost = AllByRecursion (λ (one : Unreadable). one.block < length map.places) lost

-- the map and the roles are of one drive
abbrev pub AreOfOneDrive : MapView → RolesView → Type 0
AreOfOneDrive map roles = length roles.empty ≡ map.zones

-- each of that many blocks from one on is ready to be placed
abbrev pub AreReserved : MapView → ℕ → ℕ → Type 0
AreReserved map first count = (block : ℕ) → first ≤ block → block < first + count → IsReady map block

-- which blocks are ready to be placed may have changed, and all else is the same
pub record SameButReady (old new : TablesView) : Type 0 where
  pub places : new.map.places ≡ old.map.places
  pub zones : new.map.zones ≡ old.map.zones
  pub zone_size : new.map.zone_size ≡ old.map.zone_size
  pub roles : new.roles ≡ old.roles
  pub next : new.next ≡ old.next
  pub given : new.given ≡ old.given
  pub unreadable : new.unreadable ≡ old.unreadable

-- The disk has that many blocks: those that are new have no place. Blocks that were ready to be placed still are, and all else is the same.
pub record GrowsTo (old : TablesView) (blocks : ℕ) (new : TablesView) : Type 0 where
  pub places : new.map.places ≡ extended places.None blocks old.map.places
  pub ready : (block : ℕ) → IsReady old.map block → IsReady new.map block
  pub zones : new.map.zones ≡ old.map.zones
  pub zone_size : new.map.zone_size ≡ old.map.zone_size
  pub roles : new.roles ≡ old.roles
  pub next : new.next ≡ old.next
  pub given : new.given ≡ old.given
  pub unreadable : new.unreadable ≡ old.unreadable
