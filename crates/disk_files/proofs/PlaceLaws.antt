-- What is known of a list by the first place that passes a test.
use Rattle.std.proofs.Common.{◌≡◌, ℕ, ◌+◌, Bool, false, not, List, [], ◌∷◌, length, take, drop, Option, Some, None, inl, inr, refl, ap, arith}
use Rattle.std.specs.Prelude.{◌==◌, position}
use Rattle.std.specs.List.{All, position_or_len, slice_split}
use Rattle.std.proofs.lemmas.Bool.{cases_lt}
use Rattle.std.proofs.lemmas.Bool.Decides.{nat_tests}
use Rattle.std.proofs.lemmas.List.Quantifiers.{position-Some}
use Rattle.std.proofs.lemmas.List.Splits.{slice_split_first, slice_split_none}
use Rattle.std.proofs.lemmas.List.Sums.{fails_before_first, position_or_len_is, prefix_len-le-length}
use Rattle.memchr.specs.Find.{IsFirstByte, is_byte}

module _ (p : ℕ → Bool) (xs : List ℕ) where
  -- there is a first place
  pub position_or_len-Some : (i : ℕ) → position p xs ≡ Some i → position_or_len p xs ≡ i
  position_or_len-Some i e =
      let first = position-Some p xs i 0 e in
      position_or_len_is p xs i 0 (omega arith) first.2 (λ _. first.1)

  -- no place passes
  pub position_or_len-None : position p xs ≡ None → length xs ≡ position_or_len p xs
  position_or_len-None e = grind (arith, nat_tests, prefix_len-le-length (λ x. not (p x)) xs)

  -- if no place passes, every element fails the test
  pub All-None : position p xs ≡ None → All (λ x. p x ≡ false) xs
  All-None e = let whole = position_or_len-None e in λ k d lt. fails_before_first p xs k d (omega arith)

  -- the first piece of a split ends at the first place that passes, and the rest is split
  pub slice_split-Some : (i : ℕ) → position p xs ≡ Some i → slice_split p xs ≡ take i xs ∷ slice_split p (drop (i + 1) xs)
  slice_split-Some i e =
      let first = position-Some p xs i 0 e in
      let place = position_or_len-Some i e in
      rw (slice_split_first p xs 0 (omega arith), place) refl

  -- if no place passes, the whole list is the only piece of its split
  pub slice_split-None : position p xs ≡ None → slice_split p xs ≡ xs ∷ []
  slice_split-None e = slice_split_none p xs (All-None e)

position-first : (xs : List ℕ) (byte : ℕ) (r o : Option ℕ) → position (λ b. b == byte) xs ≡ o → IsFirstByte (is_byte byte) xs r → r ≡ o
position-first xs byte None None e first = refl
position-first xs byte None (Some j) e first =
    let found = position-Some (λ b. b == byte) xs j 0 e in
    absurd (first j (omega arith) found.0 found.1)
position-first xs byte (Some k) None e first =
    let none = All-None (λ b. b == byte) xs e k 0 first.0.high in
    absurd cc
position-first xs byte (Some k) (Some j) e first =
    let found = position-Some (λ b. b == byte) xs j 0 e in
    elim (cases_lt j k) [
      | inl before ↦ absurd (first.0.before j (omega arith) before found.1)
      | inr behind ↦
          elim (cases_lt k j) [
            | inl after ↦ absurd (let fails = found.2 k after in cc)
            | inr same ↦ ap (λ (i : ℕ). Some i) (omega arith)
          ]
    ]

-- what a search for a byte finds
pub position-IsFirstByte : (byte : ℕ) (xs : List ℕ) (r : Option ℕ) → IsFirstByte (is_byte byte) xs r → r ≡ position (λ b. b == byte) xs
position-IsFirstByte byte xs r first = position-first xs byte r (position (λ b. b == byte) xs) refl first
