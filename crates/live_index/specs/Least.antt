-- The least of some counts.
use Rattle.std.specs.Prelude.{◌≡◌, ℕ, ◌<◌, ◌≤◌, Bool, true, List, slice_get, slice_index, Option, Some, None}

-- a zone is named, where each zone has a mark
abbrev pub IsNamed : List Bool → ℕ → Type 0
IsNamed among zone = slice_get among zone ≡ Some true

-- no zone below a bound is named
abbrev pub NoneNamed : List Bool → ℕ → Type 0
NoneNamed among end = (other : ℕ) → other < end → IsNamed among other → ⊥

-- of the named zones below a bound the one with the least count, and of equal ones the lowest
pub record IsLeast (counts : List ℕ) (among : List Bool) (end zone : ℕ) : Type 0 where
  pub below : zone < end
  pub is_named : IsNamed among zone
  pub least : (other : ℕ) → other < end → IsNamed among other → slice_index counts zone ≤ slice_index counts other
  pub lowest : (other : ℕ) → other < zone → IsNamed among other → slice_index counts zone < slice_index counts other

-- that zone, or that none is named
abbrev pub FindsLeast : List ℕ → List Bool → ℕ → Option ℕ → Type 0
FindsLeast counts among end None = NoneNamed among end
FindsLeast counts among end (Some zone) = IsLeast counts among end zone
