-- How many zones say a size in their headers.
use Rattle.std.specs.Prelude.{◌≡◌, ℕ, ◌==◌, Bool, true, false, List, Option, Some, None, is_some, count_by, slice_get}
use Rattle.drive_survey.specs.declared.clearing.sizes.SizeCounts.{SizeCounts}
use Rattle.drive_survey.specs.Heads.{HeadsView}

-- whether a zone's headers say a size, and whether they say this one
abbrev pub says_some : HeadsView → Bool
says_some heads = is_some heads.size

abbrev pub says_this_size : ℕ → Option ℕ → Bool
says_this_size size None = false
says_this_size size (Some said) = said == size

abbrev pub says_size : ℕ → HeadsView → Bool
says_size size heads = says_this_size size heads.size

abbrev pub size_counts : ℕ → List HeadsView → SizeCounts
size_counts size views = record { any = count_by says_some views; greatest = count_by (says_size size) views }

-- a zone says a size
abbrev pub IsSized : List HeadsView → ℕ → Type 0
IsSized views zone = (heads : HeadsView) × (slice_get views zone ≡ Some heads) × (says_some heads ≡ true)
