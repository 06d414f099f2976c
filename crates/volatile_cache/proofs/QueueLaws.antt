-- What the index says of the blocks in their order.
use Rattle.std.proofs.Common.{◌≡◌, ℕ, ◌<◌, ◌^◌, Some, None, true, false, sym, ap, inl, inr, ◌∙◌, arith}
use Rattle.std.specs.Map.{remove_entry, values_of}
use Rattle.std.specs.Ordering.{is_eq, nat_cmp}
use Rattle.std.specs.BTreeMap as tree
use Rattle.std.specs.BTreeMap.{BTreeMap}
use Rattle.std.specs.BTreeSet.{BTreeSet}
use Rattle.std.proofs.lemmas.Bool.{both_ways, cases_lt}
use Rattle.volatile_cache.specs.declared.kept.Kept.{Kept}
use Rattle.volatile_cache.specs.Queue.{AreNumbered, HasNone, IsFirstPlace, IsGreatest, IsLeast, has_place, newest_of, oldest_of, without_oldest}
use Rattle.volatile_cache.proofs.IndexLaws.{HasNoPlaceFrom, IsFirstKey}
use Rattle.volatile_cache.proofs.PlaceLaws.{HasNoneOf, is_of, newest-greatest, newest-none, oldest-least, oldest-none, oldest-some, without-least, without-none}

module _ {places : BTreeSet (ℕ × ℕ)} {order : BTreeMap ℕ Kept} {next : ℕ} (are : AreNumbered places order next) where
  -- a number of a block has 64 bits
  number-fits : (place n : ℕ) → is_of place order.entries n ≡ true → n < 2 ^ 64
  number-fits place n found = elim (cases_lt n (2 ^ 64)) [
    | inl less ↦ less
    | inr more ↦
        let none : is_of place order.entries n ≡ false = ap (has_place place) (are.below n (omega (arith, more, are.fits))) in
        absurd (both_ways (is_of place order.entries n) none found)
  ]

  none-of : (place : ℕ) → HasNone places place → HasNoneOf place order.entries
  none-of place none n = elim (cases_lt n (2 ^ 64)) [
    | inl less ↦ sym (are.index place n) ∙ none n less
    | inr more ↦ ap (has_place place) (are.below n (omega (arith, more, are.fits)))
  ]

  -- ---- the oldest block of a place

  pub oldest-numbered : (place n : ℕ) → IsLeast places place n
      → oldest_of place (values_of order.entries) ≡ tree.get nat_cmp order n
  oldest-numbered place n least = oldest-least place order.entries n are.ascend (
    sym (are.index place n) ∙ least.0,
    λ m found. least.1 m (number-fits place m found) (are.index place m ∙ found),
  )

  pub without-numbered : (place n : ℕ) → IsLeast places place n
      → values_of (remove_entry (λ (k : ℕ). is_eq (nat_cmp n k)) order.entries) ≡ without_oldest place (values_of order.entries)
  without-numbered place n least = without-least place order.entries n are.ascend (
    sym (are.index place n) ∙ least.0,
    λ m found. least.1 m (number-fits place m found) (are.index place m ∙ found),
  )

  pub none-oldest : (place : ℕ) → HasNone places place → oldest_of place (values_of order.entries) ≡ None
  none-oldest place none = oldest-none place order.entries are.ascend (none-of place none)

  pub none-without : (place : ℕ) → HasNone places place → without_oldest place (values_of order.entries) ≡ values_of order.entries
  none-without place none = without-none place order.entries are.ascend (none-of place none)

  -- ---- the newest one

  pub newest-numbered : (place n : ℕ) → IsGreatest places place n
      → newest_of place (values_of order.entries) ≡ tree.get nat_cmp order n
  newest-numbered place n greatest = newest-greatest place order.entries n are.ascend (
    sym (are.index place n) ∙ greatest.0,
    λ m found. greatest.1 m (number-fits place m found) (are.index place m ∙ found),
  )

  pub none-newest : (place : ℕ) → HasNone places place → newest_of place (values_of order.entries) ≡ None
  none-newest place none = newest-none place order.entries are.ascend (none-of place none)

  -- ---- the first place

  pub first-place : (from : ℕ) (key : ℕ × ℕ) → IsFirstKey places from key
      → IsFirstPlace from (values_of order.entries) (Some key.0)
  first-place from key first = (
    first.from-on,
    oldest-some key.0 order.entries key.1 (sym (are.index key.0 key.1) ∙ first.found),
    λ place later before.
        oldest-none place order.entries are.ascend (λ n. sym (are.index place n) ∙ first.none place n later before),
  )

  pub no-place : (from : ℕ) → HasNoPlaceFrom places from → IsFirstPlace from (values_of order.entries) None
  no-place from none place later =
      oldest-none place order.entries are.ascend (λ n. sym (are.index place n) ∙ none place n later)
