-- What is in a list, and in the lists that a function makes of its elements.
use Rattle.std.proofs.Common.{◌≡◌, inl, inr, List, [], ◌∷◌, sym, arith}
use Rattle.std.specs.Prelude.{Contains}
use Rattle.std.specs.List.{flat_map}
use Rattle.std.proofs.lemmas.List.Elements.{Contains-append_left, Contains-append_right, Contains-append_cases, Contains-push, Contains-push_cases}

pub in_none : {X : Type 0} (a : X) → Contains [] a → ⊥
in_none a c = omega (arith, c.1)

pub in_one : {X : Type 0} (x a : X) → Contains (x ∷ []) a → a ≡ x
in_one x a c = elim (Contains-push_cases [] x a c) [ inl h ↦ elim (in_none a h) [ ] | inr e ↦ sym e ]

pub is_one : {X : Type 0} (x : X) → Contains (x ∷ []) x
is_one x = Contains-push [] x

pub is_first : {X : Type 0} (x : X) (xs : List X) → Contains (x ∷ xs) x
is_first x xs = Contains-append_left (x ∷ []) xs x (is_one x)

pub is_later : {X : Type 0} (x : X) (xs : List X) (a : X) → Contains xs a → Contains (x ∷ xs) a
is_later x xs a c = Contains-append_right (x ∷ []) xs a c

-- an element of a flat_map is of one of its lists
pub record IsOfOne {X A : Type 0} (f : X → List A) (xs : List X) (a : A) : Type 0 where
  pub from : X
  pub is_there : Contains xs from
  pub is_of : Contains (f from) a

pub of_one : {X A : Type 0} (f : X → List A) (xs : List X) (a : A) → Contains (flat_map f xs) a → IsOfOne f xs a
of_one f [] a c = elim (in_none a c) [ ]
of_one f (x ∷ xs) a c = elim (Contains-append_cases (f x) (flat_map f xs) a c) [
  | inl h ↦ record { from = x; is_there = is_first x xs; is_of = h }
  | inr h ↦ let r : IsOfOne f xs a = of_one f xs a h in
      record { from = r.from; is_there = is_later x xs r.from r.is_there; is_of = r.is_of }
]

pub in_flat_map : {X A : Type 0} (f : X → List A) (xs : List X) (x : X) (a : A) → Contains xs x → Contains (f x) a → Contains (flat_map f xs) a
in_flat_map f [] x a c d = elim (in_none x c) [ ]
in_flat_map f (y ∷ ys) x a c d = elim (Contains-append_cases (y ∷ []) ys x c) [
  | inl h ↦ Contains-append_left (f y) (flat_map f ys) a (rw (sym (in_one y x h)) d)
  | inr h ↦ Contains-append_right (f y) (flat_map f ys) a (in_flat_map f ys x a h d)
]
