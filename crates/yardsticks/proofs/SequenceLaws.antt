-- Numbers that differ, tested one after the other.
use Rattle.std.proofs.Common.{◌≡◌, ◌↔◌, ℕ, ◌+◌, ◌-◌, ◌<◌, ◌≤◌, Bool, true, false, ◌||◌, eqb, List, [], ◌∷◌, length, take, drop, get_or, refl, sym}
use Rattle.std.specs.Prelude.{nat_eq}
use Rattle.std.specs.List.{AllByRecursion, IsDistinct, list_any}
use Rattle.std.proofs.lemmas.Bool.{eqb-false, ne_eqb}
use Rattle.std.proofs.lemmas.List.{drop_all, drop_more, take_rest}

differs : (x : ℕ) (xs : List ℕ) → list_any (λ y. eqb y x) xs ≡ false → AllByRecursion (λ y. eqb x y ≡ false) xs
differs x [] none = tt
differs x (y ∷ ys) none = split (eqb y x) refl none (differs x ys)
  where
    split : (b : Bool) → eqb y x ≡ b → (b || list_any (λ z. eqb z x) ys) ≡ false → (list_any (λ z. eqb z x) ys ≡ false → AllByRecursion (λ z. eqb x z ≡ false) ys) → AllByRecursion (λ z. eqb x z ≡ false) (y ∷ ys)
    split true e h others = absurd (cc)
    split false e h others = (ne_eqb x y (λ same. eqb-false y x e (sym same)), others h)

repeated : (x : ℕ) (xs : List ℕ) → list_any (λ y. eqb y x) xs ≡ true → AllByRecursion (λ y. eqb x y ≡ false) xs → ⊥
repeated x [] some all = absurd (cc)
repeated x (y ∷ ys) some all =
    let apart : eqb y x ≡ false = ne_eqb y x (λ same. eqb-false x y all.0 (sym same)) in
    repeated x ys (rw apart at some) all.1

-- what `&numbers[i..]` holds
abbrev behind : ℕ → List ℕ → List ℕ
behind i xs = take (length xs - i) (drop i xs)

-- no sequences are distinct
pub distinct-end : (xs : List ℕ) (i : ℕ) → length xs ≤ i → IsDistinct nat_eq (drop i xs)
unfolding IsDistinct
distinct-end xs i le = rw (drop_all i xs le) tt

-- a sequence that does not come again is distinct
pub distinct-more : (xs : List ℕ) (i d : ℕ) → i < length xs → list_any (λ y. eqb y (get_or xs i d)) (behind (i + 1) xs) ≡ false → IsDistinct nat_eq (drop i xs) ↔ IsDistinct nat_eq (drop (i + 1) xs)
unfolding IsDistinct
distinct-more xs i d lt none =
    let rest = take_rest xs (i + 1) in
    let apart = differs (get_or xs i d) (drop (i + 1) xs) (rw rest at none) in
    rw (drop_more xs i d lt) (λ h. h.1, λ h. (apart, h))

-- and one that comes again is not
pub distinct-not : (xs : List ℕ) (i d : ℕ) → i < length xs → list_any (λ y. eqb y (get_or xs i d)) (behind (i + 1) xs) ≡ true → IsDistinct nat_eq (drop i xs) → ⊥
unfolding IsDistinct
distinct-not xs i d lt some h =
    let rest = take_rest xs (i + 1) in
    let now = rw (drop_more xs i d lt) at h in
    repeated (get_or xs i d) (drop (i + 1) xs) (rw rest at some) now.0
