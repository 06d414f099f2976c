-- Elements of a list that are replaced by one.
use Rattle.std.proofs.Common.{◌≡◌, ◌⊎◌, inl, inr, ℕ, zero, suc, ◌<◌, List, [], ◌∷◌, ◌++◌, map, length, set, get_or, Some, refl, sym, ap, ◌∙◌, arith}
use Rattle.std.specs.Prelude.{slice_get}
use Rattle.std.specs.List.{Contains}
use Rattle.std.proofs.lemmas.Bool.{cases_eq}
use Rattle.std.proofs.lemmas.List.{get_or-set_other, get_or-set_same, length-set, map-set}
use Rattle.std.proofs.lemmas.Option.{get_or_from_slice_get, slice_get-get_or, slice_get_within}
use Rattle.batch_log.specs.Log.{Batch}
use Rattle.drive_array.specs.Spare.{cleared}
use Rattle.drive_array.specs.ZoneLogs.{log_at}
use Rattle.remount.specs.Resets.{set_all}

-- mapping a list with replaced elements replaces them in the mapped list
pub map-set_all : {X Y : Type 0} (f : X → Y) (xs : List X) (is : List ℕ) (x : X) → map f (set_all xs is x) ≡ set_all (map f xs) is (f x)
map-set_all f xs [] x = refl
map-set_all {X} {Y} f xs (i ∷ is) x = map-set_all f (set xs i x) is x ∙ ap (λ (ys : List Y). set_all ys is (f x)) (map-set f xs i x)

-- replacing elements at some numbers and then at others replaces them at all of these
pub set_all-both : {X : Type 0} (xs : List X) (is js : List ℕ) (x : X) → set_all (set_all xs is x) js x ≡ set_all xs (is ++ js) x
set_all-both xs [] js x = refl
set_all-both xs (i ∷ is) js x = set_all-both (set xs i x) is js x

-- clearing logs is replacing the logs of these zones by empty ones
pub cleared-set_all : (logs : List (List Batch)) (zones : List ℕ) → cleared logs zones ≡ set_all logs zones []
cleared-set_all logs [] = refl
cleared-set_all logs (z ∷ zs) = cleared-set_all (set logs z []) zs

-- what is there now: the new one; or, at a number that is not among these, what stood there
pub get-set_all : {X : Type 0} (xs : List X) (is : List ℕ) (x y : X) (k : ℕ) → slice_get (set_all xs is x) k ≡ Some y → (y ≡ x) ⊎ ((Contains is k → ⊥) × (slice_get xs k ≡ Some y))
get-set_all xs [] x y k e = inr ((λ c. omega (arith, c.1)), e)
get-set_all {X} xs (i ∷ is) x y k e = by (get-set_all (set xs i x) is x y k e)
  where
    at : (k ≡ i) ⊎ (k ≡ i → ⊥) → (Contains is k → ⊥) → slice_get (set xs i x) k ≡ Some y → (y ≡ x) ⊎ ((Contains (i ∷ is) k → ⊥) × (slice_get xs k ≡ Some y))
    at (inl same) out there =
        let lt : i < length xs = omega (arith, slice_get_within (set xs i x) k y there, length-set xs i x, same) in
        inl (sym (get_or_from_slice_get (set xs i x) k y y there) ∙ ap (λ (n : ℕ). get_or (set xs i x) n y) same ∙ get_or-set_same xs i x y lt)
    at (inr other) out there =
        let lt : k < length xs = omega (arith, slice_get_within (set xs i x) k y there, length-set xs i x) in
        let value : get_or xs k y ≡ y = sym (get_or-set_other xs i k x y other) ∙ get_or_from_slice_get (set xs i x) k y y there in
        inr ((λ c. among c.0 c.1 c.2), slice_get-get_or xs k y lt ∙ ap Some value)
      where
        among : (n : ℕ) → n < length (i ∷ is) → get_or (i ∷ is) n k ≡ k → ⊥
        among zero lt is-here = other (sym is-here)
        among (suc n) lt is-here = out (n, omega (arith, lt), is-here)

    by : (y ≡ x) ⊎ ((Contains is k → ⊥) × (slice_get (set xs i x) k ≡ Some y)) → (y ≡ x) ⊎ ((Contains (i ∷ is) k → ⊥) × (slice_get xs k ≡ Some y))
    by (inl same) = inl same
    by (inr there) = at (cases_eq k i) there.0 there.1

-- an element at a number that is not replaced stays
pub get_or-set_all_other : {X : Type 0} (xs : List X) (is : List ℕ) (x d : X) (k : ℕ) → (Contains is k → ⊥) → get_or (set_all xs is x) k d ≡ get_or xs k d
get_or-set_all_other xs [] x d k out = refl
get_or-set_all_other xs (i ∷ is) x d k out =
    get_or-set_all_other (set xs i x) is x d k (λ c. out (suc c.0, omega (arith, c.1), c.2)) ∙ get_or-set_other xs i k x d (λ same. out (0, omega arith, sym same))

-- what is the new one stays it
nil-set : (logs : List (List Batch)) (i k : ℕ) → log_at logs k ≡ [] → log_at (set logs i []) k ≡ []
nil-set [] i k e = refl
nil-set (l ∷ ls) zero zero e = refl
nil-set (l ∷ ls) zero (suc k) e = e
nil-set (l ∷ ls) (suc i) zero e = e
nil-set (l ∷ ls) (suc i) (suc k) e = nil-set ls i k e

nil-here : (logs : List (List Batch)) (i : ℕ) → log_at (set logs i []) i ≡ []
nil-here [] i = refl
nil-here (l ∷ ls) zero = refl
nil-here (l ∷ ls) (suc i) = nil-here ls i

nil-set_all : (logs : List (List Batch)) (is : List ℕ) (k : ℕ) → log_at logs k ≡ [] → log_at (set_all logs is []) k ≡ []
nil-set_all logs [] k e = e
nil-set_all logs (i ∷ is) k e = nil-set_all (set logs i []) is k (nil-set logs i k e)

-- a zone has no log any more, or what is at its number in another list stays
pub set_all-parts : {X : Type 0} (logs : List (List Batch)) (xs : List X) (is : List ℕ) (x d : X) (k : ℕ) → (log_at (set_all logs is []) k ≡ []) ⊎ (get_or (set_all xs is x) k d ≡ get_or xs k d)
set_all-parts logs xs [] x d k = inr refl
set_all-parts {X} logs xs (i ∷ is) x d k = by (cases_eq k i) (set_all-parts (set logs i []) (set xs i x) is x d k)
  where
    by : (k ≡ i) ⊎ (k ≡ i → ⊥) → (log_at (set_all (set logs i []) is []) k ≡ []) ⊎ (get_or (set_all (set xs i x) is x) k d ≡ get_or (set xs i x) k d)
        → (log_at (set_all (set logs i []) is []) k ≡ []) ⊎ (get_or (set_all (set xs i x) is x) k d ≡ get_or xs k d)
    by (inl same) rest = inl (nil-set_all (set logs i []) is k (rw same (nil-here logs i)))
    by (inr other) (inl gone) = inl gone
    by (inr other) (inr there) = inr (there ∙ get_or-set_other xs i k x d other)
