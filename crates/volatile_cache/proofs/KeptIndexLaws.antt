-- The index stays right when a block is added or taken out.
use Rattle.std.proofs.Common.{◌≡◌, ◌≢◌, ℕ, ◌+◌, ◌<◌, ◌^◌, List, Some, None, true, false, refl, sym, ap, inl, inr, ◌∙◌, arith}
use Rattle.std.specs.Prelude.{◌==◌, Option}
use Rattle.std.proofs.lemmas.Bool.{cases_eq, eq-eqb, eqb-true}
use Rattle.std.specs.Map.{lookup}
use Rattle.std.specs.declared.cmp.Ordering.{Ordering}
use Rattle.std.specs.declared.cmp.Ordering.TheVariants.{Less, Equal, Greater}
use Rattle.std.specs.Ordering.{is_eq, nat_cmp, ordering_then}
use Rattle.std.specs.BTreeMap as tree
use Rattle.std.specs.BTreeMap.{BTreeMap}
use Rattle.std.specs.BTreeSet as sorted
use Rattle.std.specs.BTreeSet.{BTreeSet}
use Rattle.volatile_cache.specs.declared.kept.Kept.{Kept}
use Rattle.volatile_cache.specs.Queue.{AreBelow, AreNumbered, Indexes, has_place, place_cmp}
use Rattle.volatile_cache.proofs.IndexLaws.{above, below, compared, is-false, same}

-- ---- other keys

pub other-number : (a b : ℕ) → b ≢ a → is_eq (nat_cmp a b) ≡ false
other-number a b far = elim (compared a b) [
  | below less c ↦ rw c refl
  | same e c ↦ absurd (far (sym e))
  | above more c ↦ rw c refl
]

then-other : (x y : Ordering) → is_eq y ≡ false → is_eq (ordering_then x y) ≡ false
then-other Less y far = refl
then-other Equal y far = far
then-other Greater y far = refl

first-other : (x y : Ordering) → is_eq x ≡ false → is_eq (ordering_then x y) ≡ false
first-other Less y far = refl
first-other Equal y far = absurd (cc far)
first-other Greater y far = refl

other-key : (place number p n : ℕ) → n ≢ number → is_eq (place_cmp (place, number) (p, n)) ≡ false
other-key place number p n far = then-other (nat_cmp place p) (nat_cmp number n) (other-number number n far)

other-place : (place number p n : ℕ) → p ≢ place → is_eq (place_cmp (place, number) (p, n)) ≡ false
other-place place number p n far = first-other (nat_cmp place p) (nat_cmp number n) (other-number place p far)

eqb-far : (a b : ℕ) → b ≢ a → (a == b) ≡ false
eqb-far a b far = is-false (a == b) (λ e. far (sym (eqb-true a b e)))

eqb-same : (a : ℕ) → (a == a) ≡ true
eqb-same a = eq-eqb a a refl

-- ---- a block is taken out

abbrev pub TakesKey : BTreeSet (ℕ × ℕ) → BTreeSet (ℕ × ℕ) → ℕ → ℕ → Type 0
TakesKey places places' place number = sorted.Updates place_cmp places places' (place, number) false

abbrev pub TakesBlock : BTreeMap ℕ Kept → BTreeMap ℕ Kept → ℕ → Type 0
TakesBlock order order' number = tree.Updates nat_cmp order order' number None

index-taken : (places places' : BTreeSet (ℕ × ℕ)) (order order' : BTreeMap ℕ Kept) (place number : ℕ) (kept : Kept)
    → Indexes places order → tree.get nat_cmp order number ≡ Some kept → kept.place ≡ place → TakesKey places places' place number → TakesBlock order order' number → Indexes places' order'
index-taken places places' order order' place number kept index was here key block p n = elim (cases_eq n number) [
  | inr far ↦ key.2 (p, n) (other-key place number p n far) ∙ index p n ∙ ap (has_place p) (sym (block.2 n (other-number number n far)))
  | inl at ↦ elim (cases_eq p place) [
    | inl here-too ↦ rw (at, here-too) (key.1 ∙ ap (has_place place) (sym block.1))
    | inr far ↦ rw at (key.2 (p, number) (other-place place number p number far) ∙ index p number ∙ ap (has_place p) was ∙ eqb-far kept.place p (λ e. far (e ∙ here)) ∙ ap (has_place p) (sym block.1))
  ]
]

below-taken : (next number : ℕ) (order order' : BTreeMap ℕ Kept) → AreBelow next order → TakesBlock order order' number → AreBelow next order'
below-taken next number order order' all block n from = elim (cases_eq n number) [
  | inl at ↦ rw at block.1
  | inr far ↦ block.2 n (other-number number n far) ∙ all n from
]

pub numbered-taken : {places places' : BTreeSet (ℕ × ℕ)} {order order' : BTreeMap ℕ Kept} {next : ℕ} (place number : ℕ) (kept : Kept)
    → AreNumbered places order next → tree.get nat_cmp order number ≡ Some kept → kept.place ≡ place
    → TakesKey places places' place number → TakesBlock order order' number → tree.IsOrdered nat_cmp order'
    → AreNumbered places' order' next
numbered-taken {places} {places'} {order} {order'} {next} place number kept are was here key block ascend =
    record {
      index = index-taken places places' order order' place number kept are.index was here key block;
      below = below-taken next number order order' are.below block;
      ascend = ascend;
      fits = are.fits;
    }

-- the same of a number that the index has at a place
pub numbered-taken-of : {places places' : BTreeSet (ℕ × ℕ)} {order order' : BTreeMap ℕ Kept} {next : ℕ} (place number : ℕ)
    → AreNumbered places order next → sorted.contains place_cmp places (place, number) ≡ true
    → TakesKey places places' place number → TakesBlock order order' number → tree.IsOrdered nat_cmp order'
    → AreNumbered places' order' next
numbered-taken-of {places} {places'} {order} {order'} {next} place number are found key block ascend =
    taken (tree.get nat_cmp order number) refl (sym (are.index place number) ∙ found)
  where
    taken : (block_is : Option Kept) → tree.get nat_cmp order number ≡ block_is → has_place place block_is ≡ true → AreNumbered places' order' next
    taken None was has = absurd (cc has)
    taken (Some kept) was has = numbered-taken place number kept are was (eqb-true kept.place place has) key block ascend

-- ---- a block is added

abbrev pub AddsKey : BTreeSet (ℕ × ℕ) → BTreeSet (ℕ × ℕ) → ℕ → ℕ → Type 0
AddsKey places places' place number = sorted.Updates place_cmp places places' (place, number) true

abbrev pub AddsBlock : BTreeMap ℕ Kept → BTreeMap ℕ Kept → ℕ → Kept → Type 0
AddsBlock order order' number kept = tree.Updates nat_cmp order order' number (Some kept)

index-added : (places places' : BTreeSet (ℕ × ℕ)) (order order' : BTreeMap ℕ Kept) (number : ℕ) (kept : Kept)
    → Indexes places order → tree.get nat_cmp order number ≡ None → AddsKey places places' kept.place number → AddsBlock order order' number kept → Indexes places' order'
index-added places places' order order' number kept index none key block p n = elim (cases_eq n number) [
  | inr far ↦ key.2 (p, n) (other-key kept.place number p n far) ∙ index p n ∙ ap (has_place p) (sym (block.2 n (other-number number n far)))
  | inl at ↦ elim (cases_eq p kept.place) [
    | inl here-too ↦ rw (at, here-too) (key.1 ∙ sym (eqb-same kept.place) ∙ ap (has_place kept.place) (sym block.1))
    | inr far ↦ rw at (key.2 (p, number) (other-place kept.place number p number far) ∙ index p number ∙ ap (has_place p) none ∙ sym (eqb-far kept.place p far) ∙ ap (has_place p) (sym block.1))
  ]
]

below-added : (next : ℕ) (order order' : BTreeMap ℕ Kept) (kept : Kept) → AreBelow next order → AddsBlock order order' next kept → AreBelow (next + 1) order'
below-added next order order' kept all block n from =
    block.2 n (other-number next n (λ e. omega (arith, from, e))) ∙ all n (omega (arith, from))

pub numbered-added : {places places' : BTreeSet (ℕ × ℕ)} {order order' : BTreeMap ℕ Kept} {next next' : ℕ} (kept : Kept)
    → AreNumbered places order next → AddsKey places places' kept.place next → AddsBlock order order' next kept
    → tree.IsOrdered nat_cmp order' → next' ≡ next + 1 → next' < 2 ^ 64 → AreNumbered places' order' next'
numbered-added {places} {places'} {order} {order'} {next} kept are key block ascend after fits =
    record {
      index = index-added places places' order order' next kept are.index (are.below next (omega arith)) key block;
      below = rw after (below-added next order order' kept are.below block);
      ascend = ascend;
      fits = fits;
    }

-- a key is added, and taken out again, since there is no memory for the block
index-undone : (places middle places' : BTreeSet (ℕ × ℕ)) (order order' : BTreeMap ℕ Kept) (place number : ℕ)
    → Indexes places order → tree.get nat_cmp order number ≡ None → AddsKey places middle place number → TakesKey middle places' place number → order'.entries ≡ order.entries → Indexes places' order'
index-undone places middle places' order order' place number index none key back unchanged p n = elim (cases_eq n number) [
  | inr far ↦ back.2 (p, n) (other-key place number p n far) ∙ key.2 (p, n) (other-key place number p n far) ∙ index p n ∙ ap (has_place p) (sym (same-get n))
  | inl at ↦ elim (cases_eq p place) [
    | inl here ↦ rw (at, here) (back.1 ∙ ap (has_place place) (sym (same-get number ∙ none)))
    | inr far ↦ rw at (back.2 (p, number) (other-place place number p number far) ∙ key.2 (p, number) (other-place place number p number far) ∙ index p number ∙ ap (has_place p) (sym (same-get number)))
  ]
]
  where
    same-get : (q : ℕ) → tree.get nat_cmp order' q ≡ tree.get nat_cmp order q
    same-get q = ap (λ (es : List (ℕ × Kept)). lookup (λ (k : ℕ). is_eq (nat_cmp q k)) es) unchanged

below-same : (next : ℕ) (order order' : BTreeMap ℕ Kept) → AreBelow next order → order'.entries ≡ order.entries → AreBelow next order'
below-same next order order' all unchanged n from = ap (λ (es : List (ℕ × Kept)). lookup (λ (k : ℕ). is_eq (nat_cmp n k)) es) unchanged ∙ all n from

pub numbered-undone : {places places' : BTreeSet (ℕ × ℕ)} {order order' : BTreeMap ℕ Kept} {next : ℕ} (middle : BTreeSet (ℕ × ℕ)) (place : ℕ)
    → AreNumbered places order next → AddsKey places middle place next → TakesKey middle places' place next
    → order'.entries ≡ order.entries → tree.IsOrdered nat_cmp order' → AreNumbered places' order' next
numbered-undone {places} {places'} {order} {order'} {next} middle place are key back unchanged ascend =
    record {
      index = index-undone places middle places' order order' place next are.index (are.below next (omega arith)) key back unchanged;
      below = below-same next order order' are.below unchanged;
      ascend = ascend;
      fits = are.fits;
    }
