-- What a range of the index says of the numbers of a place.
use Rattle.std.proofs.Common.{◌≡◌, ◌≢◌, ℕ, zero, suc, ◌<◌, ◌≤◌, List, [], ◌∷◌, ◌++◌, true, false, refl, sym, ap, inl, inr, arith}
use Rattle.std.specs.Prelude.{◌⊎◌, Bool}
use Rattle.std.specs.declared.cmp.Ordering.TheVariants.{Less, Equal, Greater}
use Rattle.std.specs.declared.ops.Bound.TheVariants.{Included, Unbounded}
use Rattle.std.specs.Ordering.{is_gt, is_lt, nat_cmp}
use Rattle.std.specs.Cmp.{nat_cmp_is}
use Rattle.std.specs.BTreeSet.{BTreeSet, IsKeyRangeOf, contains}
use Rattle.volatile_cache.specs.Queue.{HasNone, IsGreatest, IsLeast, place_cmp}

-- ---- the order of places and numbers

pub data Compared (x y : ℕ) : Type 0 where
  below : x < y → nat_cmp x y ≡ Less → Compared x y
  same : x ≡ y → nat_cmp x y ≡ Equal → Compared x y
  above : y < x → nat_cmp x y ≡ Greater → Compared x y

order-of : (x y : ℕ) → (x < y) ⊎ ((x ≡ y) ⊎ (y < x))
order-of zero zero = inr (inl refl)
order-of zero (suc y) = inl (omega arith)
order-of (suc x) zero = inr (inr (omega arith))
order-of (suc x) (suc y) = elim (order-of x y) [
  | inl h ↦ inl (omega (arith, h))
  | inr h ↦ elim h [ inl e ↦ inr (inl (ap suc e)) | inr g ↦ inr (inr (omega (arith, g))) ]
]

pub compared : (x y : ℕ) → Compared x y
compared x y = elim (order-of x y) [
  | inl h ↦ below h (sym (nat_cmp_is x y Less h))
  | inr h ↦ elim h [ inl e ↦ same e (sym (nat_cmp_is x y Equal e)) | inr g ↦ above g (sym (nat_cmp_is x y Greater g)) ]
]

-- a key that is not after another has no greater place, and at the same place no greater number
le-place : (a b : ℕ × ℕ) → is_gt (place_cmp a b) ≡ false → a.0 ≤ b.0
le-place a b h = elim (compared a.0 b.0) [
  | below less c ↦ omega (arith, less)
  | same e c ↦ omega (arith, e)
  | above more c ↦ absurd (cc (rw c at h))
]

le-number : (a b : ℕ × ℕ) → a.0 ≡ b.0 → is_gt (place_cmp a b) ≡ false → a.1 ≤ b.1
le-number a b at_one h = elim (compared a.0 b.0) [
  | below less c ↦ absurd (omega (arith, less, at_one))
  | above more c ↦ absurd (omega (arith, more, at_one))
  | same e c ↦ elim (compared a.1 b.1) [
    | below less d ↦ omega (arith, less)
    | same f d ↦ omega (arith, f)
    | above more d ↦ absurd (cc (rw (c, d) at h))
  ]
]

not-after : (a b : ℕ × ℕ) → (a.0 < b.0) ⊎ ((a.0 ≡ b.0) × (a.1 ≤ b.1)) → is_gt (place_cmp a b) ≡ false
not-after a b (inl less) = elim (compared a.0 b.0) [
  | below h c ↦ rw c refl
  | same e c ↦ absurd (omega (arith, less, e))
  | above more c ↦ absurd (omega (arith, less, more))
]
not-after a b (inr (e, le)) = elim (compared a.0 b.0) [
  | below h c ↦ absurd (omega (arith, h, e))
  | above more c ↦ absurd (omega (arith, more, e))
  | same f c ↦ elim (compared a.1 b.1) [
    | below h d ↦ rw (c, d) refl
    | same g d ↦ rw (c, d) refl
    | above more d ↦ absurd (omega (arith, more, le))
  ]
]

not-before : (from place number : ℕ) → from ≤ place → is_gt (place_cmp (from, 0) (place, number)) ≡ false
not-before from place number later = elim (compared from place) [
  | below less c ↦ not-after (from, 0) (place, number) (inl less)
  | same at c ↦ not-after (from, 0) (place, number) (inr (at, omega arith))
  | above more c ↦ absurd (omega (arith, more, later))
]

-- a key that is not before another has no smaller place, and at the same place no smaller number
ge-place : (a b : ℕ × ℕ) → is_lt (place_cmp a b) ≡ false → b.0 ≤ a.0
ge-place a b h = elim (compared a.0 b.0) [
  | below less c ↦ absurd (cc (rw c at h))
  | same e c ↦ omega (arith, e)
  | above more c ↦ omega (arith, more)
]

ge-number : (a b : ℕ × ℕ) → a.0 ≡ b.0 → is_lt (place_cmp a b) ≡ false → b.1 ≤ a.1
ge-number a b at_one h = elim (compared a.0 b.0) [
  | below less c ↦ absurd (omega (arith, less, at_one))
  | above more c ↦ absurd (omega (arith, more, at_one))
  | same e c ↦ elim (compared a.1 b.1) [
    | below less d ↦ absurd (cc (rw (c, d) at h))
    | same f d ↦ omega (arith, f)
    | above more d ↦ omega (arith, more)
  ]
]

-- ---- ranges of the index

abbrev pub FromPlace : BTreeSet (ℕ × ℕ) → ℕ → List (ℕ × ℕ) → Type 0
FromPlace places place r = IsKeyRangeOf place_cmp (Included (place, 0)) Unbounded places r

abbrev pub UpToPlace : BTreeSet (ℕ × ℕ) → ℕ → List (ℕ × ℕ) → Type 0
UpToPlace places place r = IsKeyRangeOf place_cmp Unbounded (Included (place, 18446744073709551615)) places r

pub is-false : (b : Bool) → (b ≡ true → ⊥) → b ≡ false
is-false true never = absurd (never refl)
is-false false never = refl

none-from : (places : BTreeSet (ℕ × ℕ)) (place : ℕ) (r : List (ℕ × ℕ)) → r ≡ [] → FromPlace places place r → HasNone places place
none-from places place r none h number fits = h.5 none (place, number) (not-after (place, 0) (place, number) (inr (refl, omega arith)), tt)

none-up-to : (places : BTreeSet (ℕ × ℕ)) (place : ℕ) (r : List (ℕ × ℕ)) → r ≡ [] → UpToPlace places place r → HasNone places place
none-up-to places place r none h number fits = h.5 none (place, number) (tt, not-after (place, number) (place, 18446744073709551615) (inr (refl, omega (arith, fits))))

pub none-least : (places : BTreeSet (ℕ × ℕ)) (place : ℕ) (r : List (ℕ × ℕ)) → r ≡ [] → FromPlace places place r → HasNone places place
none-least = none-from

pub none-greatest : (places : BTreeSet (ℕ × ℕ)) (place : ℕ) (r : List (ℕ × ℕ)) → r ≡ [] → UpToPlace places place r → HasNone places place
none-greatest = none-up-to

pub is-least : (places : BTreeSet (ℕ × ℕ)) (place : ℕ) (key : ℕ × ℕ) (rest : List (ℕ × ℕ)) (r : List (ℕ × ℕ)) → r ≡ key ∷ rest → key.0 ≡ place → FromPlace places place r → IsLeast places place key.1
is-least places place key rest r is here h =
    let first = rw is at h.1 in (
      rw here at first.1,
      λ number fits found. le-number key (place, number) here (rw is at (h.2 (place, number) (not-after (place, 0) (place, number) (inr (refl, omega arith)), tt) found)),
    )

pub other-least : (places : BTreeSet (ℕ × ℕ)) (place : ℕ) (key : ℕ × ℕ) (rest : List (ℕ × ℕ)) (r : List (ℕ × ℕ)) → r ≡ key ∷ rest → place ≢ key.0 → FromPlace places place r → HasNone places place
other-least places place key rest r is other h number fits = is-false (contains place_cmp places (place, number)) (λ found.
    let first = rw is at h.1 in
    let from : place ≤ key.0 = le-place (place, 0) key first.0.0 in
    let to : key.0 ≤ place = le-place key (place, number) (rw is at (h.2 (place, number) (not-after (place, 0) (place, number) (inr (refl, omega arith)), tt) found)) in
    other (omega (arith, from, to)))

pub is-greatest : (places : BTreeSet (ℕ × ℕ)) (place : ℕ) (key : ℕ × ℕ) (rest : List (ℕ × ℕ)) (r : List (ℕ × ℕ)) → r ≡ rest ++ key ∷ [] → key.0 ≡ place → UpToPlace places place r → IsGreatest places place key.1
is-greatest places place key rest r is here h = (
  rw here at (h.3 key rest is).1,
  λ number fits found. ge-number key (place, number) here (h.4 key rest is (place, number) (tt, not-after (place, number) (place, 18446744073709551615) (inr (refl, omega (arith, fits)))) found),
)

pub other-greatest : (places : BTreeSet (ℕ × ℕ)) (place : ℕ) (key : ℕ × ℕ) (rest : List (ℕ × ℕ)) (r : List (ℕ × ℕ)) → r ≡ rest ++ key ∷ [] → place ≢ key.0 → UpToPlace places place r → HasNone places place
other-greatest places place key rest r is other h number fits = is-false (contains place_cmp places (place, number)) (λ found.
    let to : key.0 ≤ place = le-place key (place, 18446744073709551615) (h.3 key rest is).0.1 in
    let from : place ≤ key.0 = ge-place key (place, number) (h.4 key rest is (place, number) (tt, not-after (place, number) (place, 18446744073709551615) (inr (refl, omega (arith, fits)))) found) in
    other (omega (arith, from, to)))

-- ---- places

-- the first key from a place on is of the first place that the index has
pub record IsFirstKey (places : BTreeSet (ℕ × ℕ)) (from : ℕ) (key : ℕ × ℕ) : Type 0 where
  pub from-on : from ≤ key.0
  pub found : contains place_cmp places key ≡ true
  pub none : (place number : ℕ) → from ≤ place → place < key.0 → contains place_cmp places (place, number) ≡ false

-- the index has no place from a given one on
abbrev pub HasNoPlaceFrom : BTreeSet (ℕ × ℕ) → ℕ → Type 0
HasNoPlaceFrom places from = (place number : ℕ) → from ≤ place → contains place_cmp places (place, number) ≡ false

pub first-key : (places : BTreeSet (ℕ × ℕ)) (from : ℕ) (key : ℕ × ℕ) (rest : List (ℕ × ℕ)) (r : List (ℕ × ℕ)) → r ≡ key ∷ rest → FromPlace places from r → IsFirstKey places from key
first-key places from key rest r is h =
    let first = rw is at h.1 in
    record {
      from-on = le-place (from, 0) key first.0.0;
      found = first.1;
      none = λ place number later before. is-false (contains place_cmp places (place, number)) (λ has.
          let to : key.0 ≤ place = le-place key (place, number) (rw is at (h.2 (place, number) (not-before from place number later, tt) has)) in
          omega (arith, to, before));
    }

pub no-key : (places : BTreeSet (ℕ × ℕ)) (from : ℕ) (r : List (ℕ × ℕ)) → r ≡ [] → FromPlace places from r → HasNoPlaceFrom places from
no-key places from r none h place number later = h.5 none (place, number) (not-before from place number later, tt)
