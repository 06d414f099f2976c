-- Places in the file are apart.
use Rattle.std.proofs.Common.{◌≢◌, ℕ, ◌+◌, ◌-◌, ◌*◌, ◌^◌, ◌<◌, ◌≤◌, Bool, true, false, List, ap, inl, inr, arith}
use Rattle.std.proofs.Math.Nat.{lt-div-mul-add, div-mul-le_self, mul-le-mul_right}
use Rattle.std.proofs.lemmas.Bool.{cases_lt}
use Rattle.zone_states.specs.declared.geometry.Geometry.{Geometry}
use Rattle.zone_states.specs.Geometry.{IsInRange}
use Rattle.file_bytes.specs.Changes.{SameBeside}
use Rattle.file_drive.specs.Layout.{SamePlaces, at_table, at_place, at_zones, file_length, rounded, table_room, place_room}
use Rattle.file_drive.specs.Tables.{place_of}
use Rattle.file_drive.specs.declared.entry.Entry.{Entry}
use Rattle.drive_port.specs.Step.{one_if}
use Rattle.file_drive.proofs.PartLaws.{Apart, part-beside}

-- ---- the two places of a zone

pub one-few : (b : Bool) → one_if b ≤ 1
one-few true = omega arith
one-few false = omega arith

-- they are among all places
pub place-low : (number zones : ℕ) (entry : Entry) → number < zones → place_of number entry < 2 * zones
place-low number zones entry low = omega (arith, low, one-few entry.second)

-- and are no other zone's
pub places-apart : (i j : ℕ) (a b : Entry) → i ≢ j → place_of i a ≢ place_of j b
places-apart i j a b away same = away (omega (arith, same, one-few a.second, one-few b.second))

-- ---- the parts of a file

-- a rounded number is no less
rounded-up : (piece bytes : ℕ) → 1 ≤ piece → bytes ≤ rounded piece bytes
rounded-up piece bytes some =
    let most = lt-div-mul-add {a = bytes + (piece - 1)} {b = piece} some in
    omega (arith, most, some)

module _ (g : Geometry) where
  -- a table fits its room
  pub table-fits : 8 * g.zones ≤ table_room g
  table-fits = rounded-up 4096 (8 * g.zones) (omega arith)

  -- a table ends before the next one
  pub table-ends : (table next : ℕ) → table < next → at_table g table + 8 * g.zones ≤ at_table g next
  table-ends table next low =
      let more : (table + 1) * table_room g ≤ next * table_room g = mul-le-mul_right (table_room g) (omega (arith, low)) in
      omega (arith, more, table-fits)

  -- the zones come after the tables
  pub zones-after : (table : ℕ) → table < 4 → at_table g table + 8 * g.zones ≤ at_zones g
  zones-after table low = omega (arith, table-ends table 4 low, rounded-up 1048576 (at_table g 4) (omega arith))

  -- two tables are apart
  pub tables-apart : (table other index : ℕ) → table ≢ other → index < g.zones → Apart (at_table g table + 8 * index) 8 (at_table g other) (8 * g.zones)
  tables-apart table other index away low = elim (cases_lt table other) [
    | inl less ↦ inr (omega (arith, table-ends table other less, low))
    | inr more ↦ inl (omega (arith, table-ends other table (omega (arith, more, away))))
  ]

  pub whole-apart : (table other : ℕ) → table ≢ other → Apart (at_table g table) (8 * g.zones) (at_table g other) (8 * g.zones)
  whole-apart table other away = elim (cases_lt table other) [
    | inl less ↦ inr (omega (arith, table-ends table other less))
    | inr more ↦ inl (omega (arith, table-ends other table (omega (arith, more, away))))
  ]

  -- blocks in a place end before the next place
  pub zone-ends : (number next written : ℕ) → number < next → written ≤ g.capacity → at_place g number + written * g.block ≤ at_place g next
  zone-ends number next written low few =
      let more : (number + 1) * place_room g ≤ next * place_room g = mul-le-mul_right (place_room g) (omega (arith, low)) in
      let all : written * g.block ≤ g.capacity * g.block = mul-le-mul_right g.block few in
      omega (arith, more, all)

  -- a change before the zones keeps all blocks
  pub zones-beside : (at n : ℕ) (old new : List ℕ) → SameBeside at n old new → at + n ≤ at_zones g → SamePlaces g old new
  zones-beside at n old new beside before place written low few = part-beside at n (at_place g place) (written * g.block) old new beside (inr (omega (arith, before)))

-- a rounded number is not much more
rounded-few : (piece bytes : ℕ) → rounded piece bytes ≤ bytes + (piece - 1)
rounded-few piece bytes = div-mul-le_self (bytes + (piece - 1)) piece

-- the file is far shorter than its addresses allow
pub short : (g : Geometry) → IsInRange g → file_length g < 2 ^ 62
short g in_range =
    let room : place_room g ≤ 4294967296 = elim in_range.block [
      | inl small ↦ omega (arith, ap (λ (b : ℕ). g.capacity * b) small, in_range.capacity.1, in_range.size.1)
      | inr large ↦ omega (arith, ap (λ (b : ℕ). g.capacity * b) large, in_range.capacity.1, in_range.size.1)
    ] in
    let all : 2 * g.zones * place_room g ≤ 131072 * place_room g = mul-le-mul_right (place_room g) (omega (arith, in_range.zones.1)) in
    omega (arith, room, all, in_range.zones.1, rounded-few 1048576 (at_table g 4), rounded-few 4096 (8 * g.zones))
