-- The oldest and the newest block of a place, found by their numbers. The numbers ascend in the order of the blocks.
use Rattle.std.proofs.Common.{◌≡◌, ◌≢◌, ℕ, ◌<◌, ◌≤◌, List, [], ◌∷◌, Some, None, true, false, refl, sym, ap, inl, inr, ◌∙◌, arith}
use Rattle.std.specs.Prelude.{◌==◌, Bool, Option, IsSome}
use Rattle.std.specs.List.{AllByRecursion}
use Rattle.std.specs.List.Sorted.{IsStrictlySortedBy}
use Rattle.std.specs.Map.{keys_of, lookup, remove_entry, values_of}
use Rattle.std.specs.Ordering.{is_eq, nat_cmp}
use Rattle.std.specs.declared.cmp.Ordering.TheVariants.{Less}
use Rattle.std.proofs.lemmas.Bool.{cases_Bool, cases_eq, both_ways}
use Rattle.std.proofs.lemmas.Map.Entries.{lookup_head, lookup_tail}
use Rattle.std.proofs.lemmas.Map.Keys.{sorted_head, sorted_tail}
use Rattle.volatile_cache.specs.declared.kept.Kept.{Kept}
use Rattle.volatile_cache.specs.Queue.{has_place, newer_or, newest_of, oldest_of, without_oldest}
use Rattle.volatile_cache.proofs.IndexLaws.{above, below, compared, same}
use Rattle.volatile_cache.proofs.KeptIndexLaws.{other-number}
use Rattle.volatile_cache.proofs.OrderLaws.{is-equal}

abbrev is_number : ℕ → ℕ → Bool
is_number n k = is_eq (nat_cmp n k)

-- the block of a number
abbrev block_at : ℕ → List (ℕ × Kept) → Option Kept
block_at n es = lookup (is_number n) es

abbrev pub Ascends : List (ℕ × Kept) → Type 0
Ascends es = IsStrictlySortedBy nat_cmp (keys_of es)

-- whether the block of a number has a place
abbrev pub is_of : ℕ → List (ℕ × Kept) → ℕ → Bool
is_of place es n = has_place place (block_at n es)

-- no block has the place
abbrev pub HasNoneOf : ℕ → List (ℕ × Kept) → Type 0
HasNoneOf place es = (n : ℕ) → is_of place es n ≡ false

-- the least number whose block has the place, and the greatest
abbrev pub IsLeastOf : ℕ → List (ℕ × Kept) → ℕ → Type 0
IsLeastOf place es n = (is_of place es n ≡ true) × ((m : ℕ) → is_of place es m ≡ true → n ≤ m)

abbrev pub IsGreatestOf : ℕ → List (ℕ × Kept) → ℕ → Type 0
IsGreatestOf place es n = (is_of place es n ≡ true) × ((m : ℕ) → is_of place es m ≡ true → m ≤ n)

-- ---- the first entry, and the others

head-at : (e : ℕ × Kept) (es : List (ℕ × Kept)) (n : ℕ) → n ≡ e.0 → block_at n (e ∷ es) ≡ Some e.1
head-at e es n at = lookup_head (is_number n) e es (rw at (is-equal e.0))

head-is : (place : ℕ) (e : ℕ × Kept) (es : List (ℕ × Kept)) (n : ℕ) → n ≡ e.0 → is_of place (e ∷ es) n ≡ (e.1.place == place)
head-is place e es n at = ap (has_place place) (head-at e es n at)

other-at : (e : ℕ × Kept) (es : List (ℕ × Kept)) (n : ℕ) → n ≢ e.0 → block_at n (e ∷ es) ≡ block_at n es
other-at e es n far = lookup_tail (is_number n) e es (other-number n e.0 (λ at. far (sym at)))

other-is : (place : ℕ) (e : ℕ × Kept) (es : List (ℕ × Kept)) (n : ℕ) → n ≢ e.0 → is_of place (e ∷ es) n ≡ is_of place es n
other-is place e es n far = ap (has_place place) (other-at e es n far)

after : (m n : ℕ) → nat_cmp m n ≡ Less → m < n
after m n h = elim (compared m n) [ below less c ↦ less | same e c ↦ absurd (cc (c, h)) | above more c ↦ absurd (cc (c, h)) ]

-- a number is not found among greater ones
none-before : (n first : ℕ) (es : List (ℕ × Kept)) → n ≤ first
    → AllByRecursion (λ (k : ℕ). nat_cmp first k ≡ Less) (keys_of es) → block_at n es ≡ None
none-before n first [] le all = refl
none-before n first (e ∷ es) le all =
    let less : first < e.0 = after first e.0 all.0 in
    lookup_tail (is_number n) e es (other-number n e.0 (λ at. omega (arith, at, less, le))) ∙ none-before n first es le all.1

tail-is-after : (place : ℕ) (e : ℕ × Kept) (es : List (ℕ × Kept)) (n : ℕ) → Ascends (e ∷ es) → n ≤ e.0 → is_of place es n ≡ false
tail-is-after place e es n ascends le = ap (has_place place) (none-before n e.0 es le (sorted_head nat_cmp e.0 (keys_of es) ascends))

tail-ascends : (e : ℕ × Kept) (es : List (ℕ × Kept)) → Ascends (e ∷ es) → Ascends es
tail-ascends e es ascends = sorted_tail nat_cmp e.0 (keys_of es) ascends

-- a number of the others is not that of the first
tail-is-other : (place : ℕ) (e : ℕ × Kept) (es : List (ℕ × Kept)) (n : ℕ) → Ascends (e ∷ es) → is_of place es n ≡ true → n ≢ e.0
tail-is-other place e es n ascends found at = both_ways (is_of place es n) (tail-is-after place e es n ascends (omega (arith, at))) found

-- ---- no block has the place

head-none : (place : ℕ) (e : ℕ × Kept) (es : List (ℕ × Kept)) → HasNoneOf place (e ∷ es) → (e.1.place == place) ≡ false
head-none place e es none = sym (head-is place e es e.0 refl) ∙ none e.0

tail-none : (place : ℕ) (e : ℕ × Kept) (es : List (ℕ × Kept)) → Ascends (e ∷ es) → HasNoneOf place (e ∷ es) → HasNoneOf place es
tail-none place e es ascends none n = elim (cases_eq n e.0) [
  | inl at ↦ tail-is-after place e es n ascends (omega (arith, at))
  | inr far ↦ sym (other-is place e es n far) ∙ none n
]

pub oldest-none : (place : ℕ) (es : List (ℕ × Kept)) → Ascends es → HasNoneOf place es → oldest_of place (values_of es) ≡ None
oldest-none place [] ascends none = refl
oldest-none place (e ∷ es) ascends none =
    rw (head-none place e es none) (oldest-none place es (tail-ascends e es ascends) (tail-none place e es ascends none))

pub newest-none : (place : ℕ) (es : List (ℕ × Kept)) → Ascends es → HasNoneOf place es → newest_of place (values_of es) ≡ None
newest-none place [] ascends none = refl
newest-none place (e ∷ es) ascends none =
    rw (head-none place e es none, newest-none place es (tail-ascends e es ascends) (tail-none place e es ascends none)) refl

pub without-none : (place : ℕ) (es : List (ℕ × Kept)) → Ascends es → HasNoneOf place es
    → without_oldest place (values_of es) ≡ values_of es
without-none place [] ascends none = refl
without-none place (e ∷ es) ascends none =
    rw (head-none place e es none) (ap (λ (ks : List Kept). e.1 ∷ ks)
    (without-none place es (tail-ascends e es ascends) (tail-none place e es ascends none)))

-- ---- the least number

-- the first entry has the least number of the place, or another place
data LeastIs (place : ℕ) (e : ℕ × Kept) (es : List (ℕ × Kept)) (n : ℕ) : Type 0 where
  first : n ≡ e.0 → (e.1.place == place) ≡ true → LeastIs place e es n
  later : n ≢ e.0 → (e.1.place == place) ≡ false → IsLeastOf place es n → LeastIs place e es n

least-is : (place : ℕ) (e : ℕ × Kept) (es : List (ℕ × Kept)) (n : ℕ) → Ascends (e ∷ es) → IsLeastOf place (e ∷ es) n → LeastIs place e es n
least-is place e es n ascends least = elim (cases_Bool (e.1.place == place)) [
  | inl here ↦ first (not-later (least.1 e.0 (head-is place e es e.0 refl ∙ here))) here
  | inr other ↦ later (far other) other (in-tail (far other))
]
  where
    not-later : n ≤ e.0 → n ≡ e.0
    not-later le = elim (cases_eq n e.0) [
      | inl at ↦ at
      | inr far ↦
          let found : is_of place es n ≡ true = sym (other-is place e es n far) ∙ least.0 in
          absurd (both_ways (is_of place es n) (tail-is-after place e es n ascends le) found)
    ]

    far : (e.1.place == place) ≡ false → n ≢ e.0
    far other at = both_ways (is_of place (e ∷ es) n) (head-is place e es n at ∙ other) least.0

    in-tail : n ≢ e.0 → IsLeastOf place es n
    in-tail away = (
      sym (other-is place e es n away) ∙ least.0,
      λ m found. least.1 m (other-is place e es m (tail-is-other place e es m ascends found) ∙ found),
    )

pub oldest-least : (place : ℕ) (es : List (ℕ × Kept)) (n : ℕ) → Ascends es → IsLeastOf place es n → oldest_of place (values_of es) ≡ block_at n es
oldest-least place [] n ascends least = refl
oldest-least place (e ∷ es) n ascends least = elim (least-is place e es n ascends least) [
  | first at here ↦ rw here (sym (head-at e es n at))
  | later far other tail ↦ rw other (oldest-least place es n (tail-ascends e es ascends) tail ∙ sym (other-at e es n far))
]

-- the blocks that are left when the one of the least number is taken out
pub without-least : (place : ℕ) (es : List (ℕ × Kept)) (n : ℕ) → Ascends es → IsLeastOf place es n
    → values_of (remove_entry (is_number n) es) ≡ without_oldest place (values_of es)
without-least place [] n ascends least = refl
without-least place (e ∷ es) n ascends least = elim (least-is place e es n ascends least) [
  | first at here ↦ rw (here, at) (rw (is-equal e.0) refl)
  | later far other tail ↦ rw (other, other-number n e.0 (λ at. far (sym at))) (ap (λ (ks : List Kept). e.1 ∷ ks)
      (without-least place es n (tail-ascends e es ascends) tail))
]

-- ---- the greatest number

newer-is : (place : ℕ) (newer older : Option Kept) → has_place place newer ≡ true → newer_or newer older ≡ newer
newer-is place None older has = absurd (cc has)
newer-is place (Some k) older has = refl

pub newest-greatest : (place : ℕ) (es : List (ℕ × Kept)) (n : ℕ) → Ascends es → IsGreatestOf place es n → newest_of place (values_of es) ≡ block_at n es
newest-greatest place [] n ascends greatest = refl
newest-greatest place (e ∷ es) n ascends greatest = elim (cases_Bool (is_of place es n)) [
  | inl found ↦
      let far : n ≢ e.0 = tail-is-other place e es n ascends found in
      let tail : IsGreatestOf place es n = (
        found,
        λ m has.
            greatest.1 m (other-is place e es m (tail-is-other place e es m ascends has) ∙ has),
      ) in
      let is : newest_of place (values_of es) ≡ block_at n es = newest-greatest place es n (tail-ascends e es ascends) tail in
      rw is (newer-is place (block_at n es) _ found ∙ sym (other-at e es n far))
  | inr missing ↦
      let at : n ≡ e.0 = is-head missing in
      let here : (e.1.place == place) ≡ true = sym (head-is place e es n at) ∙ greatest.0 in
      rw (newest-none place es (tail-ascends e es ascends) (none-later at), here) (sym (head-at e es n at))
]
  where
    is-head : is_of place es n ≡ false → n ≡ e.0
    is-head missing = elim (cases_eq n e.0) [
      | inl at ↦ at
      | inr far ↦ absurd (both_ways (is_of place es n) missing (sym (other-is place e es n far) ∙ greatest.0))
    ]

    none-later : n ≡ e.0 → HasNoneOf place es
    none-later at m = elim (cases_Bool (is_of place es m)) [
      | inr none ↦ none
      | inl has ↦
          let le : m ≤ n = greatest.1 m (other-is place e es m (tail-is-other place e es m ascends has) ∙ has) in
          tail-is-after place e es m ascends (omega (arith, le, at))
    ]

-- ---- a place that a block has

pub oldest-some : (place : ℕ) (es : List (ℕ × Kept)) (n : ℕ) → is_of place es n ≡ true → IsSome (oldest_of place (values_of es))
oldest-some place [] n found = absurd (cc found)
oldest-some place (e ∷ es) n found = elim (cases_Bool (e.1.place == place)) [
  | inl here ↦ rw here refl
  | inr other ↦ rw other (oldest-some place es n (in-tail other))
]
  where
    in-tail : (e.1.place == place) ≡ false → is_of place es n ≡ true
    in-tail other = elim (cases_eq n e.0) [
      | inl at ↦ absurd (both_ways (is_of place (e ∷ es) n) (head-is place e es n at ∙ other) found)
      | inr far ↦ sym (other-is place e es n far) ∙ found
    ]
