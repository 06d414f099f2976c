-- What was moved is put back.
use Rattle.std.specs.Prelude.{ℕ, ◌+◌, ◌^◌, ◌&&◌, nat_lt, if◌then◌else◌, Bool, List, [], ◌∷◌, length, slice_set}
use Rattle.batch_log.specs.declared.header.Entry.{Entry}
use Rattle.logical_map.specs.Live.{lies_in}
use Rattle.logical_map.specs.Places.{place_address}
use Rattle.logical_map.specs.declared.place.Place.{Place}
use Rattle.zone_cleaner.specs.declared.moved.Moved.{Moved}
use Rattle.zone_cleaner.specs.Clean.{place_among}

-- what is noted of a block that a Move names
abbrev pub entry_moved : List Place → Entry → Moved
entry_moved all e = record { block = e.block; place = place_among all e.block }

-- a block is in a zone, and a map can hold the place that it had
abbrev pub can_put : ℕ → ℕ → Moved → List Place → Bool
can_put zone_size zone moved all =
    nat_lt moved.block (length all) && (lies_in zone_size zone (place_among all moved.block) && nat_lt (place_address moved.place + 1) (2 ^ 63))

-- then it has that place again
abbrev pub put_one : ℕ → ℕ → Moved → List Place → List Place
put_one zone_size zone moved all = if can_put zone_size zone moved all then slice_set all moved.block moved.place else all

-- one after the other
abbrev pub put_back : ℕ → ℕ → List Moved → List Place → List Place
put_back zone_size zone [] all = all
put_back zone_size zone (moved ∷ more) all = put_back zone_size zone more (put_one zone_size zone moved all)
