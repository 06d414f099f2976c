-- The blocks of a torn zone, in the order in which they are moved.
use Rattle.std.proofs.Common.{◌≡◌, ◌≢◌, ◌⊎◌, inl, inr, ℕ, zero, suc, ◌+◌, ◌*◌, ◌<◌, ◌≤◌, Bool, true, false, ◌||◌, cond, eqb, List, [], ◌∷◌, ◌++◌, length, take, get_or, refl, sym, ap, subst, ◌∙◌, arith}
use Rattle.std.specs.Prelude.{Contains, nat_eq}
use Rattle.std.specs.List.{AllByRecursion, IsDistinct, list_any}
use Rattle.std.proofs.lemmas.Bool.{cases_eq, cases_lt, eq-eqb, eqb-true, ne_eqb}
use Rattle.std.proofs.lemmas.List.{take-append-le}
use Rattle.logical_map.specs.Live.{blocks_in, lies_in}
use Rattle.logical_map.specs.declared.place.Place.{Place}
use Rattle.logical_map.specs.declared.place.Place.TheVariants as places
use Rattle.drive_array.specs.Repair.{moves}
use Rattle.drive_array.proofs.AllLaws.{all-append, all-weaker}
use Rattle.drive_array.proofs.ReserveLaws.{div_ceil-le}
use Rattle.drive_survey.specs.declared.clearing.Finding.{Finding}
use Rattle.drive_survey.specs.declared.clearing.Finding.TheVariants.{HalfClean, NotMoves, NeedsBlock, NeedsSize}
use Rattle.remount.specs.Moving.{is_last_in, ordered, others}
use Rattle.remount.proofs.MovePlanLaws.{all-take}

-- ---- elements

-- a number is an element of a list
abbrev pub In : ℕ → List ℕ → Type 0
In b [] = ⊥
In b (x ∷ xs) = (x ≡ b) ⊎ In b xs

-- a list contains each number that is an element of it
pub in-contains : (b : ℕ) (xs : List ℕ) → In b xs → Contains xs b
in-contains b [] is = absurd is
in-contains b (x ∷ xs) (inl same) = (0, omega arith, same)
in-contains b (x ∷ xs) (inr more) = let rest = in-contains b xs more in (suc rest.0, omega (arith, rest.1), rest.2)

-- what holds of all elements holds of each
all-in : (P : ℕ → Type 0) (b : ℕ) (xs : List ℕ) → AllByRecursion P xs → In b xs → P b
all-in P b [] all is = absurd is
all-in P b (x ∷ xs) all (inl same) = subst P same all.0
all-in P b (x ∷ xs) all (inr more) = all-in P b xs all.1 more

in-front : (b : ℕ) (xs ys : List ℕ) → In b xs → In b (xs ++ ys)
in-front b [] ys is = absurd is
in-front b (x ∷ xs) ys (inl same) = inl same
in-front b (x ∷ xs) ys (inr more) = inr (in-front b xs ys more)

in-behind : (b : ℕ) (xs ys : List ℕ) → In b ys → In b (xs ++ ys)
in-behind b [] ys is = is
in-behind b (x ∷ xs) ys is = inr (in-behind b xs ys is)

-- ---- all but one, and that one last

-- what holds of all elements holds of all except for one
others-all : (P : ℕ → Type 0) (last : ℕ) (xs : List ℕ) → AllByRecursion P xs → AllByRecursion P (others last xs)
others-all P last [] all = tt
others-all P last (x ∷ xs) all = by (eqb x last) (others-all P last xs all.1)
  where
    by : (b : Bool) → AllByRecursion P (others last xs) → AllByRecursion P (cond b (others last xs) (x ∷ others last xs))
    by true rest = rest
    by false rest = (all.0, rest)

-- the number that is left out is none of the others
others-not : (last : ℕ) (xs : List ℕ) → AllByRecursion (λ x. x ≢ last) (others last xs)
others-not last [] = tt
others-not last (x ∷ xs) = by (cases_eq x last) (others-not last xs)
  where
    by : (x ≡ last) ⊎ (x ≢ last) → AllByRecursion (λ y. y ≢ last) (others last xs) → AllByRecursion (λ y. y ≢ last) (others last (x ∷ xs))
    by (inl same) rest = rw (eq-eqb x last same) rest
    by (inr other) rest = rw (ne_eqb x last other) (other, rest)

others-in : (last b : ℕ) (xs : List ℕ) → b ≢ last → In b xs → In b (others last xs)
others-in last b [] other is = absurd is
others-in last b (x ∷ xs) other (inl same) = rw (ne_eqb x last (λ e. other (sym same ∙ e))) (inl same)
others-in last b (x ∷ xs) other (inr more) = by (eqb x last) (others-in last b xs other more)
  where
    by : (t : Bool) → In b (others last xs) → In b (cond t (others last xs) (x ∷ others last xs))
    by true rest = rest
    by false rest = inr rest

others-distinct : (last : ℕ) (xs : List ℕ) → IsDistinct nat_eq xs → IsDistinct nat_eq (others last xs)
unfolding IsDistinct
others-distinct last [] d = tt
others-distinct last (x ∷ xs) d = by (eqb x last) (others-all (λ y. eqb x y ≡ false) last xs d.0) (others-distinct last xs d.1)
  where
    by : (t : Bool) → AllByRecursion (λ y. eqb x y ≡ false) (others last xs) → IsDistinct nat_eq (others last xs) → IsDistinct nat_eq (cond t (others last xs) (x ∷ others last xs))
    by true all rest = rest
    by false all rest = (all, rest)

last-distinct : (last : ℕ) (xs : List ℕ) → AllByRecursion (λ x. x ≢ last) xs → IsDistinct nat_eq xs → IsDistinct nat_eq (xs ++ last ∷ [])
unfolding IsDistinct
last-distinct last [] not d = (tt, tt)
last-distinct last (x ∷ xs) not d = (all-append (λ y. eqb x y ≡ false) xs (last ∷ []) d.0 (ne_eqb x last not.0, tt), last-distinct last xs not.1 d.1)

-- what is added up over the elements
abbrev pub total : (ℕ → ℕ) → List ℕ → ℕ
total f [] = 0
total f (x ∷ xs) = f x + total f xs

-- the sum over two lists in a row is the sum over the first and the second
pub total-append : (f : ℕ → ℕ) (xs ys : List ℕ) → total f (xs ++ ys) ≡ total f xs + total f ys
total-append f [] ys = omega arith
total-append f (x ∷ xs) ys = omega (arith, total-append f xs ys)

others-none : (last : ℕ) (xs : List ℕ) → AllByRecursion (λ y. eqb last y ≡ false) xs → others last xs ≡ xs
others-none last [] all = refl
others-none last (x ∷ xs) all = by (cases_eq x last) (others-none last xs all.1)
  where
    by : (x ≡ last) ⊎ (x ≢ last) → others last xs ≡ xs → others last (x ∷ xs) ≡ x ∷ xs
    by (inl same) rest = let bad : true ≡ false = sym (eq-eqb last x (sym same)) ∙ all.0 in absurd (cc)
    by (inr other) rest = rw (ne_eqb x last other) (ap (λ (ys : List ℕ). x ∷ ys) rest)

others-total : (f : ℕ → ℕ) (last : ℕ) (xs : List ℕ) → IsDistinct nat_eq xs → In last xs → total f (others last xs) + f last ≡ total f xs
unfolding IsDistinct
others-total f last [] d is = absurd is
others-total f last (x ∷ xs) d (inl same) =
    let rest : others last xs ≡ xs = others-none last xs (rw same at d.0) in
    rw (eq-eqb x last same) (omega (arith, ap (total f) rest, ap f same))
others-total f last (x ∷ xs) d (inr more) = by (cases_eq x last) (others-total f last xs d.1 more)
  where
    by : (x ≡ last) ⊎ (x ≢ last) → total f (others last xs) + f last ≡ total f xs → total f (others last (x ∷ xs)) + f last ≡ total f (x ∷ xs)
    by (inl same) rest =
        let none : others last xs ≡ xs = others-none last xs (rw same at d.0) in
        rw (eq-eqb x last same) (omega (arith, ap (total f) none, ap f same))
    by (inr other) rest = rw (ne_eqb x last other) (omega (arith, rest))

-- ---- the order

-- the block that comes last is one of them
abbrev pub IsLastIn : List ℕ → Finding → Type 0
IsLastIn blocks (NeedsBlock last) = In last blocks
IsLastIn blocks why = Unit {0}

-- the test tells it
in-any : (last : ℕ) (blocks : List ℕ) → list_any (λ block. eqb block last) blocks ≡ true → In last blocks
in-any last [] h = absurd (cc)
in-any last (b ∷ bs) h = by (eqb b last) refl h (in-any last bs)
  where
    by : (t : Bool) → eqb b last ≡ t → (t || list_any (λ block. eqb block last) bs) ≡ true → (list_any (λ block. eqb block last) bs ≡ true → In last bs) → In last (b ∷ bs)
    by true e h rest = inl (eqb-true b last e)
    by false e h rest = inr (rest h)

any-in : (last : ℕ) (blocks : List ℕ) → In last blocks → list_any (λ block. eqb block last) blocks ≡ true
any-in last [] h = absurd h
any-in last (b ∷ bs) h = elim h as (λ _. list_any (λ block. eqb block last) (b ∷ bs) ≡ true) [
  | inl same ↦ rw (eq-eqb b last same) refl
  | inr there ↦ rw (any-in last bs there) (or-yes (eqb b last))
]
  where
    or-yes : (t : Bool) → (t || true) ≡ true
    or-yes true = refl
    or-yes false = refl

pub last-told : (blocks : List ℕ) (why : Finding) → is_last_in blocks why ≡ true → IsLastIn blocks why
last-told blocks (NeedsBlock last) h = in-any last blocks h
last-told blocks HalfClean h = tt
last-told blocks NotMoves h = tt
last-told blocks NeedsSize h = tt

pub told-last : (blocks : List ℕ) (why : Finding) → IsLastIn blocks why → is_last_in blocks why ≡ true
told-last blocks (NeedsBlock last) h = any-in last blocks h
told-last blocks HalfClean h = refl
told-last blocks NotMoves h = refl
told-last blocks NeedsSize h = refl

-- a list in another order: it has all elements, each once, and the same sums
pub record IsOrder (blocks order : List ℕ) : Type 0 where
  pub has : (b : ℕ) → In b blocks → In b order
  pub distinct : IsDistinct nat_eq order
  pub totals : (f : ℕ → ℕ) → total f order ≡ total f blocks

last-order : (blocks : List ℕ) (last : ℕ) → IsDistinct nat_eq blocks → In last blocks → IsOrder blocks (others last blocks ++ last ∷ [])
last-order blocks last d is = record {
  has = λ b there. elim (cases_eq b last) as (λ _. In b (others last blocks ++ last ∷ [])) [
    | inl same ↦ in-behind b (others last blocks) (last ∷ []) (inl (sym same))
    | inr other ↦ in-front b (others last blocks) (last ∷ []) (others-in last b blocks other there)
  ];
  distinct = last-distinct last (others last blocks) (others-not last blocks) (others-distinct last blocks d);
  totals = λ f. omega (arith, total-append f (others last blocks) (last ∷ []), others-total f last blocks d is);
}

same-order : (blocks : List ℕ) → IsDistinct nat_eq blocks → IsOrder blocks blocks
same-order blocks d = record { has = λ b there. there; distinct = d; totals = λ f. refl }

-- moving the block that is needed to the end gives another order of the blocks
pub is-order : (blocks : List ℕ) (why : Finding) → IsDistinct nat_eq blocks → IsLastIn blocks why → IsOrder blocks (ordered blocks why)
is-order blocks (NeedsBlock last) d is = last-order blocks last d is
is-order blocks HalfClean d is = same-order blocks d
is-order blocks NotMoves d is = same-order blocks d
is-order blocks NeedsSize d is = same-order blocks d

-- what holds of all blocks holds of them in the order of the Moves
pub order-all : (P : ℕ → Type 0) (blocks : List ℕ) (why : Finding) → IsLastIn blocks why → AllByRecursion P blocks → AllByRecursion P (ordered blocks why)
order-all P blocks (NeedsBlock last) is all = all-append P (others last blocks) (last ∷ []) (others-all P last blocks all) (all-in P last blocks all is, tt)
order-all P blocks HalfClean is all = all
order-all P blocks NotMoves is all = all
order-all P blocks NeedsSize is all = all

-- the length of a list is the sum of ones over it
pub length-total : (xs : List ℕ) → length xs ≡ total (λ x. 1) xs
length-total [] = refl
length-total (x ∷ xs) = omega (arith, length-total xs)

-- a list in another order has the same length
pub order-length : (blocks order : List ℕ) → IsOrder blocks order → length order ≡ length blocks
order-length blocks order is = length-total order ∙ is.totals (λ x. 1) ∙ sym (length-total blocks)

-- all Moves but the last do not name the last block
pub front-not : (blocks : List ℕ) (last n : ℕ) → n ≤ length (others last blocks) → AllByRecursion (λ x. x ≢ last) (take n (others last blocks ++ last ∷ []))
front-not blocks last n le = rw (take-append-le n (others last blocks) (last ∷ []) le) (all-take (λ x. x ≢ last) n (others last blocks) (others-not last blocks))

-- before the last Move fewer blocks are named than there are
pub front-few : (most k count : ℕ) → 1 ≤ most → 1 ≤ count → k < moves most count → k * most < count
front-few most zero count some has lt = let none : 0 * most ≡ 0 = omega arith in omega (arith, none, has)
front-few most (suc k) count some has lt = elim (cases_lt (suc k * most) count) as (λ _. suc k * most < count) [
  | inl less ↦ less
  | inr le ↦ absurd (let few = div_ceil-le count most (suc k) (omega (arith, some)) le in omega (arith, few, lt))
]

-- ---- the blocks that are in a zone

-- a block has a place in this list, and the place is in the zone
pub record LiesAt (size zone first : ℕ) (all : List Place) (b : ℕ) : Type 0 where
  pub k : ℕ
  pub is : b ≡ first + k
  pub in_range : k < length all
  pub lies : lies_in size zone (get_or all k places.None) ≡ true

-- each block that is found in a zone has its place there
pub blocks-lie : (size zone first : ℕ) (all : List Place) → AllByRecursion (LiesAt size zone first all) (blocks_in size zone first all)
blocks-lie size zone first [] = tt
blocks-lie size zone first (p ∷ ps) = by (lies_in size zone p) refl (all-weaker (LiesAt size zone (first + 1) ps) (LiesAt size zone first (p ∷ ps)) (blocks_in size zone (first + 1) ps) more (blocks-lie size zone (first + 1) ps))
  where
    more : (b : ℕ) → LiesAt size zone (first + 1) ps b → LiesAt size zone first (p ∷ ps) b
    more b at = record { k = suc at.k; is = omega (arith, at.is); in_range = omega (arith, at.in_range); lies = at.lies }

    by : (b : Bool) → lies_in size zone p ≡ b → AllByRecursion (LiesAt size zone first (p ∷ ps)) (blocks_in size zone (first + 1) ps)
        → AllByRecursion (LiesAt size zone first (p ∷ ps)) (cond b (first ∷ blocks_in size zone (first + 1) ps) (blocks_in size zone (first + 1) ps))
    by true here rest = (record { k = 0; is = omega arith; in_range = omega arith; lies = here }, rest)
    by false here rest = rest

-- no block is found in a zone twice
pub blocks-distinct : (size zone first : ℕ) (all : List Place) → IsDistinct nat_eq (blocks_in size zone first all)
unfolding IsDistinct
blocks-distinct size zone first [] = tt
blocks-distinct size zone first (p ∷ ps) = by (lies_in size zone p) (all-weaker (LiesAt size zone (first + 1) ps) (λ b. eqb first b ≡ false) (blocks_in size zone (first + 1) ps) (λ b at. ne_eqb first b (λ e. omega (arith, at.is, e))) (blocks-lie size zone (first + 1) ps)) (blocks-distinct size zone (first + 1) ps)
  where
    by : (b : Bool) → AllByRecursion (λ x. eqb first x ≡ false) (blocks_in size zone (first + 1) ps) → IsDistinct nat_eq (blocks_in size zone (first + 1) ps)
        → IsDistinct nat_eq (cond b (first ∷ blocks_in size zone (first + 1) ps) (blocks_in size zone (first + 1) ps))
    by true apart rest = (apart, rest)
    by false apart rest = rest

-- a block whose place is in the zone is found there
pub lying-in : (size zone first k b : ℕ) (all : List Place) → b ≡ first + k → k < length all → lies_in size zone (get_or all k places.None) ≡ true → In b (blocks_in size zone first all)
lying-in size zone first k b [] is lt lies = absurd (omega arith)
lying-in size zone first zero b (p ∷ ps) is lt lies = rw lies (inl (omega (arith, is)))
lying-in size zone first (suc k) b (p ∷ ps) is lt lies = by (lies_in size zone p) (lying-in size zone (first + 1) k b ps (omega (arith, is)) (omega (arith, lt)) lies)
  where
    by : (t : Bool) → In b (blocks_in size zone (first + 1) ps) → In b (cond t (first ∷ blocks_in size zone (first + 1) ps) (blocks_in size zone (first + 1) ps))
    by true rest = inr rest
    by false rest = rest
