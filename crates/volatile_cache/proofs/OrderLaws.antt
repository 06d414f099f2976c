-- The blocks in the order of their numbers.
use Rattle.std.proofs.Common.{◌≡◌, ℕ, ◌<◌, ◌≤◌, List, [], ◌∷◌, ◌++◌, Some, None, true, false, refl, ap, ◌∙◌, arith}
use Rattle.std.specs.Prelude.{Bool, Option, cond}
use Rattle.std.specs.Ordering.{is_eq, nat_cmp}
use Rattle.std.specs.Map.{lookup, values_of}
use Rattle.std.specs.BTreeMap.{insert_entry}
use Rattle.volatile_cache.specs.declared.kept.Kept.{Kept}
use Rattle.volatile_cache.proofs.IndexLaws.{Compared, above, below, compared, same}

-- no entry has this number, nor a greater one
abbrev pub HasNoneFrom : List (ℕ × Kept) → ℕ → Type 0
HasNoneFrom es next = (n : ℕ) → next ≤ n → lookup (λ (k : ℕ). is_eq (nat_cmp n k)) es ≡ None

pub is-equal : (n : ℕ) → is_eq (nat_cmp n n) ≡ true
is-equal n = elim (compared n n) [
  | below less c ↦ absurd (omega (arith, less))
  | same e c ↦ rw c refl
  | above more c ↦ absurd (omega (arith, more))
]

cond-some : (b : Bool) (x y : Option Kept) → b ≡ true → cond b x y ≡ None → x ≡ None
cond-some true x y is none = none
cond-some false x y is none = absurd (cc is)

cond-other : (b : Bool) (x y : Option Kept) → b ≡ false → cond b x y ≡ None → y ≡ None
cond-other true x y is none = absurd (cc is)
cond-other false x y is none = none

never-none : (k : Kept) → Some k ≡ None → ⊥
never-none k none = cc none

-- an entry is not at its own number none
head-below : (e : ℕ × Kept) (es : List (ℕ × Kept)) (next : ℕ) → HasNoneFrom (e ∷ es) next → next ≤ e.0 → ⊥
head-below e es next none from = never-none e.1 (cond-some (is_eq (nat_cmp e.0 e.0)) (Some e.1) (lookup (λ (k : ℕ). is_eq (nat_cmp e.0 k)) es) (is-equal e.0) (none e.0 from))

tail-none : (e : ℕ × Kept) (es : List (ℕ × Kept)) (next : ℕ) → e.0 < next → HasNoneFrom (e ∷ es) next → HasNoneFrom es next
tail-none e es next less none n from = cond-other (is_eq (nat_cmp n e.0)) (Some e.1) (lookup (λ (k : ℕ). is_eq (nat_cmp n k)) es) (far (compared n e.0)) (none n from)
  where
    far : Compared n e.0 → is_eq (nat_cmp n e.0) ≡ false
    far (below h c) = absurd (omega (arith, h, less, from))
    far (same h c) = absurd (omega (arith, h, less, from))
    far (above h c) = rw c refl

-- what is inserted at the next number comes last
pub insert-last : (es : List (ℕ × Kept)) (next : ℕ) (kept : Kept) → HasNoneFrom es next → insert_entry nat_cmp es next kept ≡ es ++ (next, kept) ∷ []
insert-last [] next kept none = refl
insert-last (e ∷ es) next kept none = elim (compared next e.0) [
  | below less c ↦ absurd (head-below e es next none (omega (arith, less)))
  | same at c ↦ absurd (head-below e es next none (omega (arith, at)))
  | above more c ↦ rw c (ap (λ (xs : List (ℕ × Kept)). e ∷ xs) (insert-last es next kept (tail-none e es next more none)))
]

pub values-append : (es fs : List (ℕ × Kept)) → values_of (es ++ fs) ≡ values_of es ++ values_of fs
values-append [] fs = refl
values-append (e ∷ es) fs = ap (λ (xs : List Kept). e.1 ∷ xs) (values-append es fs)

pub insert-values : (es : List (ℕ × Kept)) (next : ℕ) (kept : Kept) → HasNoneFrom es next → values_of (insert_entry nat_cmp es next kept) ≡ values_of es ++ kept ∷ []
insert-values es next kept none = ap (λ (xs : List (ℕ × Kept)). values_of xs) (insert-last es next kept none) ∙ values-append es ((next, kept) ∷ [])
