-- Entries of a header, one after the other.
use Rattle.std.proofs.Common.{◌≡◌, ℕ, zero, suc, ◌+◌, ◌<◌, List, [], ◌∷◌, ◌++◌, map, drop, length, get_or, max, Some, refl, ap, ◌∙◌, arith, append_assoc}
use Rattle.std.specs.Prelude.{slice_get}
use Rattle.std.proofs.lemmas.List.{drop_more}
use Rattle.batch_log.specs.declared.header.Entry.{Entry}
use Rattle.drive_survey.specs.Heads.{highest_of, kept_entry}

in-range : {X : Type 0} (xs : List X) (i : ℕ) (x : X) → slice_get xs i ≡ Some x → i < length xs
in-range [] i x is = absurd (cc)
in-range (y ∷ ys) zero x is = omega arith
in-range (y ∷ ys) (suc i) x is = let lt = in-range ys i x is in omega (arith, lt)

found-at : {X : Type 0} (xs : List X) (i : ℕ) (x : X) → slice_get xs i ≡ Some x → get_or xs i x ≡ x
found-at [] i x is = refl
found-at (y ∷ ys) zero x is = let same : Some y ≡ Some x = is in cc
found-at (y ∷ ys) (suc i) x is = found-at ys i x is

-- what is left of a list from an index on begins with the element there
next-at : {X : Type 0} (xs : List X) (i : ℕ) (x : X) → slice_get xs i ≡ Some x → drop i xs ≡ x ∷ drop (i + 1) xs
next-at xs i x is = drop_more xs i x (in-range xs i x is) ∙ ap (λ y. y ∷ drop (i + 1) xs) (found-at xs i x is)

-- one entry more is kept
pub kept-step : (entries : List Entry) (i : ℕ) (e : Entry) (now more all : List ℕ) → slice_get entries i ≡ Some e → more ≡ now ++ kept_entry e ∷ [] → now ++ map kept_entry (drop i entries) ≡ all
    → more ++ map kept_entry (drop (i + 1) entries) ≡ all
kept-step entries i e now more all is pushed before =
    let before' : now ++ kept_entry e ∷ map kept_entry (drop (i + 1) entries) ≡ all = rw (next-at entries i e is) at before in
    rw pushed (append_assoc now (kept_entry e ∷ []) (map kept_entry (drop (i + 1) entries)) ∙ before')

-- the next entry is taken into the greatest block, and the greatest of all stays the same
pub highest-step : (entries : List Entry) (i : ℕ) (e : Entry) (now more all : ℕ) → slice_get entries i ≡ Some e → more ≡ max now e.block → highest_of now (drop i entries) ≡ all → highest_of more (drop (i + 1) entries) ≡ all
highest-step entries i e now more all is grown before = let before' = rw (next-at entries i e is) at before in rw grown before'
