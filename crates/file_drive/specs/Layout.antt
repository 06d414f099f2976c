-- Where a drive in a file has its parts.
use Rattle.std.specs.Prelude.{◌≡◌, ℕ, ◌+◌, ◌-◌, ◌*◌, ◌/◌, ◌<◌, ◌≤◌, List, take, drop}
use Rattle.std.specs.Int.{w64, from_le_bytes}
use Rattle.zone_states.specs.declared.geometry.Geometry.{Geometry}

-- that many bytes of a file from an offset on
abbrev pub part : List ℕ → ℕ → ℕ → List ℕ
part file at n = take n (drop at file)

-- a word of 8 bytes, the lowest first
unfoldable pub word_in : List ℕ → ℕ → ℕ
word_in file at = from_le_bytes w64 (part file at 8)

-- the head is in the first block; then come the word that picks a live table, and the one that picks a flushed table
abbrev pub at_live : ℕ
at_live = 4096

abbrev pub at_flushed : ℕ
at_flushed = 8192

-- a number of bytes up to a whole number of such pieces
abbrev pub rounded : ℕ → ℕ → ℕ
rounded piece bytes = (bytes + (piece - 1)) / piece * piece

-- Four tables of a word for each zone, each in blocks of its own: two live ones, and two flushed ones.
abbrev pub table_room : Geometry → ℕ
table_room geometry = rounded 4096 (8 * geometry.zones)

abbrev pub at_table : Geometry → ℕ → ℕ
at_table geometry table = 12288 + table * table_room geometry

-- the places of the zones, one after the other, each with room for all blocks of a zone
abbrev pub at_zones : Geometry → ℕ
at_zones geometry = rounded 1048576 (at_table geometry 4)

abbrev pub place_room : Geometry → ℕ
place_room geometry = geometry.capacity * geometry.block

abbrev pub at_place : Geometry → ℕ → ℕ
at_place geometry place = at_zones geometry + place * place_room geometry

-- the length of the file: each zone has two places
abbrev pub file_length : Geometry → ℕ
file_length geometry = at_place geometry (2 * geometry.zones)

-- the blocks in every place are the same, as many of them as a zone has
abbrev pub SamePlaces : Geometry → List ℕ → List ℕ → Type 0
SamePlaces geometry old new =
    (place written : ℕ) → place < 2 * geometry.zones → written ≤ geometry.capacity
    → part new (at_place geometry place) (written * geometry.block) ≡ part old (at_place geometry place) (written * geometry.block)
