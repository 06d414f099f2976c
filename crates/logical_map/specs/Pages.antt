-- Pages of places, seen as one list: a page that is missing holds no place.
use Rattle.std.specs.Prelude.{◌≡◌, ◌≢◌, ℕ, ◌≤◌, ◌-◌, ◌/◌, ◌%◌, ◌==◌, if◌then◌else◌, Bool, List, length}
use Rattle.std.specs.Prelude.{map, replicate, slice_index_or, slice_set, Option, None, Some, Box}
use Rattle.std.specs.declared.alloc.Global.{Global}
use Rattle.std.specs.List.{range_with_len}
use Rattle.std.specs.Option.{unwrap_or, option_map, is_some}
use Rattle.logical_map.specs.declared.place.Place.{Place}
use Rattle.logical_map.specs.declared.place.Place.TheVariants as places

-- the place that a word of a page stands for: none for 0, data for an odd word, else a trim
abbrev pub place_of : ℕ → Place
place_of word = if word == 0 then places.None else if word % 2 == 1 then places.At (word / 2) else places.Trimmed (word / 2 - 1)

-- the place of a block, by a look-up of its page
abbrev pub place_in : (ℕ → Option (List Place)) → ℕ → Place
place_in page block = unwrap_or (option_map (λ p. slice_index_or p (block % 256) places.None) (page (block / 256))) places.None

-- the places of all blocks
abbrev pub paged_places : (ℕ → Option (List Place)) → ℕ → List Place
paged_places page n = map (place_in page) (range_with_len 0 n)

-- no block from one on has a place
abbrev pub HasNoneFrom : (ℕ → Option (List Place)) → ℕ → Type 0
HasNoneFrom page end = (block : ℕ) → end ≤ block → place_in page block ≡ places.None

-- a page by its number; one past the end is missing
abbrev pub page_of : List (Option (Box (List ℕ) Global)) → ℕ → Option (List Place)
page_of pages number = option_map (λ b. map place_of b.value) (slice_index_or pages number None)

-- a page is there in which no block has a place, and the others stayed
pub record MakesPage (old : ℕ → Option (List Place)) (number : ℕ) (new : ℕ → Option (List Place)) : Type 0 where
  pub made : new number ≡ Some (replicate 256 places.None)
  pub others : (m : ℕ) → m ≢ number → new m ≡ old m

-- a block's place was changed in its page, and the other pages stayed
pub record ChangesPage (old : ℕ → Option (List Place)) (block : ℕ) (place was : Place) (new : ℕ → Option (List Place)) : Type 0 where
  pub page : List Place
  pub long : length page ≡ 256
  pub found : old (block / 256) ≡ Some page
  pub was_is : was ≡ slice_index_or page (block % 256) places.None
  pub set : new (block / 256) ≡ Some (slice_set page (block % 256) place)
  pub others : (m : ℕ) → m ≢ block / 256 → new m ≡ old m

-- what changing a block's place answers: the old one, or none where its page is missing
abbrev pub Changes : (ℕ → Option (List Place)) → ℕ → Place → Option Place → (ℕ → Option (List Place)) → Type 0
Changes old block place None new = old (block / 256) ≡ None
Changes old block place (Some was) new = ChangesPage old block place was new

-- whether a block's page is there
abbrev pub ready : (ℕ → Option (List Place)) → ℕ → List Bool
ready page n = map (λ block. is_some (page (block / 256))) (range_with_len 0 n)
