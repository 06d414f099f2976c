-- Zones in order of their counts.
use Rattle.std.specs.Prelude.{◌≡◌, ℕ, ◌<◌, ◌≤◌, Bool, List, length, slice_index, Option, Some, None}
use Rattle.std.specs.List.{All}
use Rattle.live_index.specs.Least.{IsNamed}

-- the count of the zone at a position
abbrev pub count_at : List ℕ → List ℕ → ℕ → ℕ
count_at counts zones position = slice_index counts (slice_index zones position)

-- the zones are in order of their counts
pub record IsOrdered (counts zones : List ℕ) : Type 0 where
  pub as_many : length zones ≡ length counts
  pub below : All (λ zone. zone < length counts) zones
  pub rises : (j k : ℕ) → j ≤ k → k < length zones → count_at counts zones j ≤ count_at counts zones k

-- the number at each index of a list is an index of another list, which has the first index there
pub record LeadsBack (xs ys : List ℕ) : Type 0 where
  pub below : (k : ℕ) → k < length xs → slice_index xs k < length ys
  pub back : (k : ℕ) → k < length xs → slice_index ys (slice_index xs k) ≡ k

-- each position has a zone, and each zone that position
pub record AreInverse (zones positions : List ℕ) : Type 0 where
  pub as_many : length positions ≡ length zones
  pub from_position : LeadsBack zones positions
  pub from_zone : LeadsBack positions zones

-- the zones before a position have at most some count, and those from it on have more
pub record IsFirstAbove (counts zones : List ℕ) (count position : ℕ) : Type 0 where
  pub within : position ≤ length zones
  pub at_most : (k : ℕ) → k < position → count_at counts zones k ≤ count
  pub above : (k : ℕ) → position ≤ k → k < length zones → count < count_at counts zones k

-- no zone before a position is named
abbrev pub NoneNamedBefore : List ℕ → List Bool → ℕ → Type 0
NoneNamedBefore zones among end = (k : ℕ) → k < end → IsNamed among (slice_index zones k) → ⊥

-- the zone at a position is the first that is named
pub record IsFirstNamed (zones : List ℕ) (among : List Bool) (position : ℕ) : Type 0 where
  pub within : position < length zones
  pub is_named : IsNamed among (slice_index zones position)
  pub first : NoneNamedBefore zones among position

-- that position, or that no zone is named
abbrev pub FindsFirstNamed : List ℕ → List Bool → Option ℕ → Type 0
FindsFirstNamed zones among None = NoneNamedBefore zones among (length zones)
FindsFirstNamed zones among (Some position) = IsFirstNamed zones among position

-- of the named zones from one position to before another, the one at this position has the lowest number
pub record IsLowestNamed (zones : List ℕ) (among : List Bool) (start end position : ℕ) : Type 0 where
  pub after : start ≤ position
  pub before : position < end
  pub is_named : IsNamed among (slice_index zones position)
  pub lowest : (k : ℕ) → start ≤ k → k < end → IsNamed among (slice_index zones k) → slice_index zones position ≤ slice_index zones k
