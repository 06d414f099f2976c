-- The words of pages that stand for places in a zone.
use Rattle.std.specs.Prelude.{◌≡◌, ℕ, ◌-◌, ◌<◌, ◌^◌, Bool, false, if◌then◌else◌, nat_lt}
use Rattle.logical_map.specs.Live.{lies_in}
use Rattle.logical_map.specs.Pages.{place_of}

-- a zone, and how many addresses it has
pub record ZoneView : Type 0 where
  pub zone_size : ℕ
  pub zone : ℕ

-- whether a word is one of `count` words from `first` on
abbrev pub is_word_from : ℕ → ℕ → ℕ → Bool
is_word_from first count word = if nat_lt word first then false else nat_lt (word - first) count

-- these are the words that stand for places in a zone
abbrev pub AreWordsOf : ℕ → ℕ → ℕ → ℕ → Type 0
AreWordsOf zone_size zone first count = (word : ℕ) → word < 2 ^ 64 → is_word_from first count word ≡ lies_in zone_size zone (place_of word)
