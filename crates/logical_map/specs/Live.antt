-- Which blocks are in a zone.
use Rattle.std.specs.Prelude.{ℕ, ◌+◌, ◌/◌, ◌==◌, if◌then◌else◌, Bool, false, nat_lt, List, [], ◌∷◌}
use Rattle.std.specs.Prelude.{drop, count_by, slice_get, slice_index_or, Option, Some, None}
use Rattle.std.specs.Option.{option_map}
use Rattle.logical_map.specs.declared.place.Place.{Place}
use Rattle.logical_map.specs.declared.place.Place.TheVariants as places
use Rattle.logical_map.specs.Places.{MapView}

-- the zone that a place is in
abbrev pub zone_of : ℕ → Place → Option ℕ
zone_of zone_size places.None = None
zone_of zone_size (places.Trimmed address) = Some (address / zone_size)
zone_of zone_size (places.At address) = Some (address / zone_size)

abbrev pub is_zone : Option ℕ → ℕ → Bool
is_zone None zone = false
is_zone (Some other) zone = other == zone

abbrev pub lies_in : ℕ → ℕ → Place → Bool
lies_in zone_size zone place = is_zone (zone_of zone_size place) zone

-- the zone, if a drive with that many zones has it
abbrev pub zone_below : ℕ → Option ℕ → Option ℕ
zone_below zones None = None
zone_below zones (Some zone) = if nat_lt zone zones then Some zone else None

-- the zone of the drive that a place is in
abbrev pub zone_in : MapView → Place → Option ℕ
zone_in map place = zone_below map.zones (zone_of map.zone_size place)

-- how many live records a zone has: one for each block that is in it
abbrev pub live : MapView → ℕ → ℕ
live map zone = count_by (lies_in map.zone_size zone) map.places

-- the blocks of these places that are in a zone, where the first place is that of the block `first`
abbrev pub blocks_in : ℕ → ℕ → ℕ → List Place → List ℕ
blocks_in zone_size zone first [] = []
blocks_in zone_size zone first (place ∷ all) =
    if lies_in zone_size zone place then first ∷ blocks_in zone_size zone (first + 1) all else blocks_in zone_size zone (first + 1) all

-- the blocks from one on that are in a zone
abbrev pub blocks_in_zone : MapView → ℕ → ℕ → List ℕ
blocks_in_zone map zone from = blocks_in map.zone_size zone from (drop from map.places)

-- the first of them, with its place
abbrev pub first_record : MapView → ℕ → ℕ → Option (ℕ × Place)
first_record map zone from = option_map (λ block. (block, slice_index_or map.places block places.None)) (slice_get (blocks_in_zone map zone from) 0)
