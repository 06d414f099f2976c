-- The least, the middle and the greatest of numbers.
use Rattle.std.specs.Prelude.{ℕ, ◌-◌, ◌/◌, List, length, slice_index_or}
use Rattle.drive_counter.specs.declared.spread.Spread.{Spread}

-- of numbers in ascending order
abbrev pub spread_in : List ℕ → Spread
spread_in numbers =
    let last = length numbers - 1 in
    record { least = slice_index_or numbers 0 0; median = slice_index_or numbers (last / 2) 0; most = slice_index_or numbers last 0 }
