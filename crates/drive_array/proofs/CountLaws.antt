-- How many members of a list have a property, when one is set.
use Rattle.std.proofs.Common.{◌≡◌, ℕ, suc, ◌+◌, ◌<◌, ◌≤◌, Bool, true, false, cond, List, [], ◌∷◌, length, set, get_or, refl, arith}
use Rattle.std.specs.List.{count_by}
use Rattle.std.proofs.lemmas.List.Sums.{sum_by-set}

-- where nothing passes a test, nothing is counted
pub count-zero : {X : Type 0} (p : X → Bool) (xs : List X) (d : X) → ((k : ℕ) → k < length xs → p (get_or xs k d) ≡ false) → count_by p xs ≡ 0
count-zero p [] d none = refl
count-zero p (x ∷ xs) d none = let here : p x ≡ false = none 0 (omega arith) in rw here (count-zero p xs d (λ k lt. none (suc k) (omega arith)))

-- a test counts once at most
pub at_most : (b : Bool) → cond {A = ℕ} b 1 0 ≤ 1
at_most true = omega arith
at_most false = omega arith

-- one element set counts no more than one less
pub count-set : {X : Type 0} (p : X → Bool) (xs : List X) (i : ℕ) (d : X) → p d ≡ false → i < length xs → count_by p xs ≤ count_by p (set xs i d) + 1
count-set p xs i d off lt =
    let none : cond {A = ℕ} (p d) 1 0 ≡ 0 = rw off refl in
    omega (arith, sum_by-set (λ y. cond {A = ℕ} (p y) 1 0) xs i d d lt, none, at_most (p (get_or xs i d)))
