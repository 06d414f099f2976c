-- Where the oldest and the newest block of a place stand in the list, and which places are clear.
use Rattle.std.proofs.Common.{◌≡◌, ◌≢◌, ◌⊎◌, ℕ, ◌+◌, ◌-◌, ◌<◌, ◌≤◌, List, [], ◌∷◌, ◌++◌, length, Some, None, true, false, refl, sym, ap, inl, inr, ◌∙◌, arith}
use Rattle.std.specs.Prelude.{◌==◌, Bool, Option, IsSome, slice_get}
use Rattle.std.proofs.lemmas.Bool.{both_ways, cases_Bool, cases_lt, cases_order, eq-eqb, eqb-true, ne_eqb}
use Rattle.std.proofs.lemmas.List.{map-append}
use Rattle.nbd_session.specs.Pending.{AreApart}
use Rattle.volatile_cache.specs.declared.kept.Kept.{Kept}
use Rattle.volatile_cache.specs.Queue.{IsFirstPlace, all_pending, newer_or, newest_of, oldest_of, pending_of, some_kept, without_oldest}

-- ---- the first block, and the others

some-is : (a b : Kept) → Some a ≡ Some b → a ≡ b
some-is a b h = cc h

no-some : (k : Kept) → Some k ≡ None → ⊥
no-some k h = cc h

oldest-here : (place : ℕ) (k : Kept) (ks : List Kept) → (k.place == place) ≡ true
    → oldest_of place (k ∷ ks) ≡ Some k
oldest-here place k ks here = rw here refl

oldest-other : (place : ℕ) (k : Kept) (ks : List Kept) → (k.place == place) ≡ false
    → oldest_of place (k ∷ ks) ≡ oldest_of place ks
oldest-other place k ks other = rw other refl

pub without-here : (place : ℕ) (k : Kept) (ks : List Kept) → (k.place == place) ≡ true
    → without_oldest place (k ∷ ks) ≡ ks
without-here place k ks here = rw here refl

pub without-other : (place : ℕ) (k : Kept) (ks : List Kept) → (k.place == place) ≡ false
    → without_oldest place (k ∷ ks) ≡ k ∷ without_oldest place ks
without-other place k ks other = rw other refl

-- a block of one place is apart from that of another
is-apart : (a b : ℕ) → a ≢ b → (a < b) ⊎ (b + 1 ≤ a)
is-apart a b far = elim (cases_order a b) [
  | inl at ↦ absurd (far at)
  | inr other ↦ elim other [ inl less ↦ inl less | inr more ↦ inr (omega (arith, more)) ]
]

is-far : (a b : ℕ) → (a == b) ≡ false → a ≢ b
is-far a b other at = both_ways (a == b) other (eq-eqb a b at)

-- ---- clear places

-- no block is pending at n places from a given one on
abbrev pub IsClear : ℕ → ℕ → List Kept → Type 0
IsClear first n kept = (place : ℕ) → first ≤ place → place < first + n → oldest_of place kept ≡ None

head-far : (place : ℕ) (k : Kept) (ks : List Kept) → oldest_of place (k ∷ ks) ≡ None → k.place ≢ place
head-far place k ks none at = no-some k (sym (oldest-here place k ks (eq-eqb k.place place at)) ∙ none)

tail-none : (place : ℕ) (k : Kept) (ks : List Kept) → oldest_of place (k ∷ ks) ≡ None → oldest_of place ks ≡ None
tail-none place k ks none = sym (oldest-other place k ks (ne_eqb k.place place (head-far place k ks none))) ∙ none

pub apart-clear : (first n : ℕ) (kept : List Kept) → IsClear first n kept → AreApart first n (all_pending kept)
apart-clear first n [] clear = tt
apart-clear first n (k ∷ ks) clear =
    (outside, apart-clear first n ks (λ place from before. tail-none place k ks (clear place from before)))
  where
    outside : (k.place < first) ⊎ (first + n ≤ k.place)
    outside = elim (cases_lt k.place first) [
      | inl less ↦ inl less
      | inr from ↦ elim (cases_lt k.place (first + n)) [
        | inl before ↦ absurd (head-far k.place k ks (clear k.place from before) refl)
        | inr past ↦ inr past
      ]
    ]

-- no block is pending from a place on
pub apart-all : (first n : ℕ) (kept : List Kept) → IsFirstPlace first kept None → AreApart first n (all_pending kept)
apart-all first n kept none = apart-clear first n kept (λ place from before. none place from)

-- the first place from a given one on at which a block is pending is past n places
pub apart-before : (first n place : ℕ) (kept : List Kept) → IsFirstPlace first kept (Some place)
    → n ≤ place - first → AreApart first n (all_pending kept)
apart-before first n place kept is past =
    apart-clear first n kept (λ at from before. is.2 at from (omega (arith, before, past, is.0)))

-- where no block is pending none is taken out
pub without-same : (place : ℕ) (kept : List Kept) → oldest_of place kept ≡ None → kept ≡ without_oldest place kept
without-same place [] none = refl
without-same place (k ∷ ks) none =
    ap (λ (rest : List Kept). k ∷ rest) (without-same place ks (tail-none place k ks none))
    ∙ sym (without-other place k ks (ne_eqb k.place place (head-far place k ks none)))

-- ---- the oldest block of a place

-- The oldest block of its place. All older ones are of other places, and the others are left without it.
pub record IsOldest (kept : List Kept) (k : Kept) : Type 0 where
  pub older : List Kept
  pub newer : List Kept
  pub kept_are : kept ≡ older ++ k ∷ newer
  pub left : without_oldest k.place kept ≡ older ++ newer
  pub apart : AreApart k.place 1 (all_pending older)

oldest-first : (x k : Kept) (xs : List Kept) → x ≡ k → IsOldest (x ∷ xs) k
oldest-first x k xs is =
    record {
      older = [];
      newer = xs;
      kept_are = ap (λ (y : Kept). y ∷ xs) is;
      left = without-here k.place x xs (eq-eqb x.place k.place (ap (λ (y : Kept). y.place) is));
      apart = tt;
    }

oldest-later : (x k : Kept) (xs : List Kept) → x.place ≢ k.place → IsOldest xs k → IsOldest (x ∷ xs) k
oldest-later x k xs far is =
    record {
      older = x ∷ is.older;
      newer = is.newer;
      kept_are = ap (λ (rest : List Kept). x ∷ rest) is.kept_are;
      left = without-other k.place x xs (ne_eqb x.place k.place far) ∙ ap (λ (rest : List Kept). x ∷ rest) is.left;
      apart = (is-apart x.place k.place far, is.apart);
    }

pub oldest-place : (place : ℕ) (kept : List Kept) (k : Kept) → oldest_of place kept ≡ Some k → k.place ≡ place
oldest-place place [] k found = absurd (no-some k (sym found))
oldest-place place (x ∷ xs) k found = elim (cases_Bool (x.place == place)) [
  | inl here ↦
      let is : x ≡ k = some-is x k (sym (oldest-here place x xs here) ∙ found) in
      ap (λ (y : Kept). y.place) (sym is) ∙ eqb-true x.place place here
  | inr other ↦ oldest-place place xs k (sym (oldest-other place x xs other) ∙ found)
]

pub oldest-splits : (place : ℕ) (kept : List Kept) (k : Kept) → oldest_of place kept ≡ Some k → IsOldest kept k
oldest-splits place [] k found = absurd (no-some k (sym found))
oldest-splits place (x ∷ xs) k found = elim (cases_Bool (x.place == place)) [
  | inl here ↦ oldest-first x k xs (some-is x k (sym (oldest-here place x xs here) ∙ found))
  | inr other ↦
      let in_tail : oldest_of place xs ≡ Some k = sym (oldest-other place x xs other) ∙ found in
      oldest-later x k xs (λ at. is-far x.place place other (at ∙ oldest-place place xs k in_tail)) (oldest-splits place xs k in_tail)
]

-- the same blocks, as a store shows them
pub pending-around : (kept older newer : List Kept) (k : Kept) → kept ≡ older ++ k ∷ newer
    → all_pending kept ≡ all_pending older ++ pending_of k ∷ all_pending newer
pending-around kept older newer k are =
    ap (λ (ks : List Kept). all_pending ks) are ∙ map-append pending_of older (k ∷ newer)

pub without-less : (place : ℕ) (kept : List Kept) → length (without_oldest place kept) ≤ length kept
without-less place [] = omega arith
without-less place (k ∷ ks) = elim (cases_Bool (k.place == place)) [
  | inl here ↦ rw (without-here place k ks here) (omega arith)
  | inr other ↦ let rest = without-less place ks in rw (without-other place k ks other) (omega (arith, rest))
]

-- without the oldest block of a place that has one, there is one fewer
pub without-length : (place : ℕ) (kept : List Kept) → IsSome (oldest_of place kept) → length (without_oldest place kept) + 1 ≡ length kept
without-length place [] some = absurd (cc some)
without-length place (k ∷ ks) some = elim (cases_Bool (k.place == place)) [
  | inl here ↦ ap (λ (rest : List Kept). length rest + 1) (without-here place k ks here) ∙ omega arith
  | inr other ↦
      let in_tail : length (without_oldest place ks) + 1 ≡ length ks = without-length place ks (rw (oldest-other place k ks other) at some) in
      ap (λ (rest : List Kept). length rest + 1) (without-other place k ks other) ∙ omega (arith, in_tail)
]

-- where a place has an oldest block, there is a block
pub some-kept : (place : ℕ) (kept : List Kept) → IsSome (oldest_of place kept) → 0 < length kept
some-kept place [] some = absurd (cc some)
some-kept place (k ∷ ks) some = omega arith

-- the first block of all is the oldest of its place
pub first-oldest : (kept : List Kept) (k : Kept) → slice_get kept 0 ≡ Some k → oldest_of k.place kept ≡ Some k
first-oldest [] k first = absurd (no-some k (sym first))
first-oldest (x ∷ xs) k first =
    let is : x ≡ k = some-is x k first in
    oldest-here k.place x xs (eq-eqb x.place k.place (ap (λ (y : Kept). y.place) is)) ∙ first

-- ---- the newest block of a place

-- The newest block of its place. All newer ones are of other places.
pub record IsNewest (kept : List Kept) (k : Kept) : Type 0 where
  pub older : List Kept
  pub newer : List Kept
  pub kept_are : kept ≡ older ++ k ∷ newer
  pub apart : AreApart k.place 1 (all_pending newer)

neither : (newer older : Option Kept) → newer_or newer older ≡ None → (newer ≡ None) × (older ≡ None)
neither None older none = (refl, none)
neither (Some k) older none = absurd (no-some k none)

some-other : (here : Bool) (k : Kept) → some_kept here k None ≡ None → here ≡ false
some-other true k none = absurd (no-some k none)
some-other false k none = refl

some-here : (here : Bool) (x k : Kept) → some_kept here x None ≡ Some k → (here ≡ true) × (x ≡ k)
some-here true x k found = (refl, some-is x k found)
some-here false x k found = absurd (no-some k (sym found))

-- a place that has no newest block has no oldest one
pub none-of-both : (place : ℕ) (kept : List Kept) → newest_of place kept ≡ None → oldest_of place kept ≡ None
none-of-both place [] none = refl
none-of-both place (k ∷ ks) none =
    let parts = neither (newest_of place ks) (some_kept (k.place == place) k None) none in
    oldest-other place k ks (some-other (k.place == place) k parts.1) ∙ none-of-both place ks parts.0

none-after : (place : ℕ) (kept : List Kept) → newest_of place kept ≡ None → AreApart place 1 (all_pending kept)
none-after place kept none = apart-clear place 1 kept (λ at from before. rw (at-only at from before) (none-of-both place kept none))
  where
    at-only : (at : ℕ) → place ≤ at → at < place + 1 → at ≡ place
    at-only at from before = omega (arith, from, before)

-- the first block is the newest of the place, or one of the others is
data NewestIs (place : ℕ) (x : Kept) (xs : List Kept) (k : Kept) : Type 0 where
  head : x.place ≡ place → x ≡ k → newest_of place xs ≡ None → NewestIs place x xs k
  tail : newest_of place xs ≡ Some k → NewestIs place x xs k

newest-is : (place : ℕ) (x : Kept) (xs : List Kept) (k : Kept) → newest_of place (x ∷ xs) ≡ Some k → NewestIs place x xs k
newest-is place x xs k found = by-tail (newest_of place xs) refl found
  where
    by-tail : (newest : Option Kept) → newest_of place xs ≡ newest
        → newer_or newest (some_kept (x.place == place) x None) ≡ Some k → NewestIs place x xs k
    by-tail None is this =
        let here = some-here (x.place == place) x k this in
        head (eqb-true x.place place here.0) here.1 is
    by-tail (Some newer) is this = tail (is ∙ this)

pub newest-place : (place : ℕ) (kept : List Kept) (k : Kept) → newest_of place kept ≡ Some k → k.place ≡ place
newest-place place [] k found = absurd (no-some k (sym found))
newest-place place (x ∷ xs) k found = elim (newest-is place x xs k found) [
  | head here is none ↦ ap (λ (y : Kept). y.place) (sym is) ∙ here
  | tail later ↦ newest-place place xs k later
]

newest-first : (x k : Kept) (xs : List Kept) → x ≡ k → AreApart k.place 1 (all_pending xs) → IsNewest (x ∷ xs) k
newest-first x k xs is apart =
    record { older = []; newer = xs; kept_are = ap (λ (y : Kept). y ∷ xs) is; apart = apart }

newest-later : (x k : Kept) (xs : List Kept) → IsNewest xs k → IsNewest (x ∷ xs) k
newest-later x k xs is =
    record {
      older = x ∷ is.older;
      newer = is.newer;
      kept_are = ap (λ (rest : List Kept). x ∷ rest) is.kept_are;
      apart = is.apart;
    }

pub newest-splits : (place : ℕ) (kept : List Kept) (k : Kept) → newest_of place kept ≡ Some k → IsNewest kept k
newest-splits place [] k found = absurd (no-some k (sym found))
newest-splits place (x ∷ xs) k found = elim (newest-is place x xs k found) [
  | head here is none ↦ newest-first x k xs is (rw (newest-place place (x ∷ xs) k found) (none-after place xs none))
  | tail later ↦ newest-later x k xs (newest-splits place xs k later)
]
