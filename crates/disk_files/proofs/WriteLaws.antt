-- The data of a `write` is its last word: a space is no digit.
use Rattle.std.proofs.Common.{◌≡◌, ◌⊎◌, ℕ, zero, suc, ◌+◌, ◌<◌, false, ltb, List, [], ◌∷◌, length, map, get_or, drop, take, Option, Some, None, inl, inr, refl, arith}
use Rattle.std.specs.Prelude.{position}
use Rattle.std.specs.Simd.Lanes.{all_below}
use Rattle.std.proofs.Math.Bool.{and-false}
use Rattle.std.proofs.lemmas.Bool.{eqb-true}
use Rattle.std.proofs.lemmas.List.Quantifiers.{position-Some}
use Rattle.disk_files.specs.TraceLine.{write_of}
use Rattle.disk_files.specs.Words.{HasMore, hex_bytes, data_of, is_space, number_of, value_or_none, words_of, ◌>>=◌}
use Rattle.disk_files.specs.declared.trace_line.TraceLine.{TraceLine}
use Rattle.disk_files.specs.declared.trace_line.TraceLine.TheVariants.{Write}
use Rattle.disk_files.proofs.DigitLaws.{values-none}
use Rattle.disk_files.proofs.PlaceLaws.{slice_split-None, slice_split-Some}
use Rattle.disk_files.proofs.WordLaws.{HasMore-rest}

space-below : (xs : List ℕ) (i : ℕ) → i < length xs → get_or xs i 0 ≡ 32 → all_below 16 (map value_or_none xs) ≡ false
space-below [] i lt e = absurd (omega arith)
space-below (x ∷ xs) zero lt e = rw e refl
space-below (x ∷ xs) (suc i) lt e = rw (space-below xs i (omega arith) e) (and-false (ltb (value_or_none x) 16))

-- what follows the number of a `write`: one word, or more, and then no data
record IsMore (digits : List ℕ) : Type 0 where
  none : hex_bytes digits ≡ None
  words : HasMore (words_of digits)

words-at : (digits : List ℕ) (o : Option ℕ) → position is_space digits ≡ o → (words_of digits ≡ digits ∷ []) ⊎ IsMore digits
words-at digits None e = inl (slice_split-None is_space digits e)
words-at digits (Some i) e =
    let found = position-Some is_space digits i 0 e in
    let split = slice_split-Some is_space digits i e in
    inr (record {
      none = values-none digits (space-below digits i found.0 (eqb-true (get_or digits i 0) 32 found.1));
      words = HasMore-rest digits (take i digits) (drop (i + 1) digits) split;
    })

words-of : (digits : List ℕ) → (words_of digits ≡ digits ∷ []) ⊎ IsMore digits
words-of digits = words-at digits (position is_space digits) refl

abbrev written : Option ℕ → Option (List ℕ) → Option (TraceLine × List ℕ)
written number bytes = do
  l ← number
  bs ← bytes
  Some (Write l, bs)

none-data : (number : Option ℕ) (bytes : Option (List ℕ)) → bytes ≡ None → written number bytes ≡ None
none-data None bytes e = refl
none-data (Some l) None e = refl
none-data (Some l) (Some bs) e = absurd cc

none-write : (first : List ℕ) (words : List (List ℕ)) → HasMore words → write_of (first ∷ words) ≡ None
none-write first [] more = absurd (let e = more.are in cc)
none-write first (word ∷ []) more = absurd (let e = more.are in cc)
none-write first (word ∷ other ∷ rest) more = refl

-- words that are no data are no write
pub write-none : (first digits : List ℕ) → data_of digits ≡ None → write_of (first ∷ words_of digits) ≡ None
write-none first digits none = elim (words-of digits) [
  | inl one ↦ rw one (none-data (number_of first) (data_of digits) none)
  | inr more ↦ none-write first (words_of digits) more.words
]

one-word : (digits bytes : List ℕ) → data_of digits ≡ Some bytes → words_of digits ≡ digits ∷ []
one-word [] bytes e = absurd cc
one-word (digit ∷ digits) bytes e = elim (words-of (digit ∷ digits)) [
  | inl one ↦ one
  | inr more ↦ absurd (let none = more.none in cc)
]

-- a number and data are one
pub write-some : (first digits bytes : List ℕ) (number : ℕ) → number_of first ≡ Some number → data_of digits ≡ Some bytes → write_of (first ∷ words_of digits) ≡ Some (Write number, bytes)
write-some first digits bytes number n e = rw (one-word digits bytes e, n, e) refl
