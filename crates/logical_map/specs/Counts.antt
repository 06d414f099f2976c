-- The counts that a map keeps of its zones.
use Rattle.std.specs.Prelude.{◌≡◌, ℕ, ◌+◌, ◌-◌, ◌<◌, ◌≤◌, true, List, length, count_by, slice_index, slice_set, Option, Some, None}
use Rattle.std.specs.Option.{is_some}
use Rattle.logical_map.specs.declared.place.Place.{Place}
use Rattle.logical_map.specs.Live.{lies_in}
use Rattle.logical_map.specs.Pages.{HasNoneFrom, paged_places}

-- one less in a zone, if any
abbrev pub lowered : Option ℕ → List ℕ → List ℕ
lowered None counts = counts
lowered (Some zone) counts = slice_set counts zone (slice_index counts zone - 1)

-- one more
abbrev pub raised : Option ℕ → List ℕ → List ℕ
raised None counts = counts
raised (Some zone) counts = slice_set counts zone (slice_index counts zone + 1)

-- Blocks past the end have no place, and each zone's count is that of the blocks that are in it. Once a page is there,
-- each zone has a count; a count that is missing is 0.
pub record IsKept (page : ℕ → Option (List Place)) (n zones zone_size : ℕ) (counts : List ℕ) : Type 0 where
  pub past : HasNoneFrom page n
  pub counted : (zone : ℕ) → zone < zones → slice_index counts zone ≡ count_by (lies_in zone_size zone) (paged_places page n)
  pub made : (number : ℕ) → is_some (page number) ≡ true → length counts ≡ zones
  pub few : length counts ≤ zones
