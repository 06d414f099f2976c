-- The blocks of a cache: their arrays, one of them that is applied, and those of a write.
use Rattle.std.proofs.Common.{◌≡◌, ◌≢◌, inl, inr, ℕ, zero, suc, ◌+◌, ◌<◌, ◌≤◌, List, [], ◌∷◌, ◌++◌, ◌∙◌, length, get_or, set, refl, sym, ap, arith, length-set, get_or-set_other, ext_get_or}
use Rattle.std.specs.Prelude.{◌⊎◌, Contains}
use Rattle.std.proofs.lemmas.Bool.{cases_eq}
use Rattle.std.proofs.lemmas.List.{set_comm}
use Rattle.std.proofs.lemmas.List.Elements.{Contains-append_left, Contains-append_right, Contains-append_cases}
use Rattle.zone_translator.specs.Flat.{replaced}
use Rattle.zone_translator.specs.View.{disk_array, flat_of}
use Rattle.nbd_session.specs.Pending.{AreApart, HoldsSome, Pending, overlay, pieces}
use Rattle.nbd_session.specs.Store.{IsTorn, StoreView, store_array, store_flat}
use Rattle.volatile_cache.specs.Outcomes.{cached, outcomes}
use Rattle.volatile_cache.proofs.Lists.{in_one}

-- ---- arrays

pub overlay_append : (ws vs : List Pending) (base : List (List ℕ)) → overlay (ws ++ vs) base ≡ overlay vs (overlay ws base)
overlay_append [] vs base = refl
overlay_append (w ∷ ws) vs base = overlay_append ws vs (set base w.place w.block)

-- the array of a store with a cache is that of the store with the cache's blocks
pub cached_array : (below : StoreView) (mine : List Pending) → store_array (cached below mine) ≡ overlay mine (store_array below)
cached_array below mine = overlay_append below.pending mine (disk_array below.disk)

pub cached_flat : (below : StoreView) (mine : List Pending) → store_flat (cached below mine) ≡ record (store_flat below) { array = overlay mine (store_array below) }
cached_flat below mine = ap (λ (a : List (List ℕ)). record (flat_of below.disk) { array = a }) (cached_array below mine)

-- ---- the outcomes of a list are the arrays that hold some of it

pub some_outcome : (ws : List Pending) (base array : List (List ℕ)) → HoldsSome ws base array → Contains (outcomes ws base) array
some_outcome [] base array some = (zero, omega arith, sym some)
some_outcome (w ∷ ws) base array (inl some) = Contains-append_left (outcomes ws base) (outcomes ws (set base w.place w.block)) array (some_outcome ws base array some)
some_outcome (w ∷ ws) base array (inr some) = Contains-append_right (outcomes ws base) (outcomes ws (set base w.place w.block)) array (some_outcome ws (set base w.place w.block) array some)

pub outcome_some : (ws : List Pending) (base array : List (List ℕ)) → Contains (outcomes ws base) array → HoldsSome ws base array
outcome_some [] base array found = in_one base array found
outcome_some (w ∷ ws) base array found = elim (Contains-append_cases (outcomes ws base) (outcomes ws (set base w.place w.block)) array found) [
  | inl left ↦ inl (outcome_some ws base array left)
  | inr right ↦ inr (outcome_some ws (set base w.place w.block) array right)
]

-- some of the first blocks, and then some of the second
pub some_append : (ws vs : List Pending) (base middle array : List (List ℕ)) → HoldsSome ws base middle → HoldsSome vs middle array → HoldsSome (ws ++ vs) base array
some_append [] vs base middle array first second = rw first at second
some_append (w ∷ ws) vs base middle array (inl first) second = inl (some_append ws vs base middle array first second)
some_append (w ∷ ws) vs base middle array (inr first) second = inr (some_append ws vs (set base w.place w.block) middle array first second)

-- what the first and then the second blocks leave
pub record Through (ws vs : List Pending) (base array : List (List ℕ)) : Type 0 where
  pub middle : List (List ℕ)
  pub was : HoldsSome ws base middle
  pub later : HoldsSome vs middle array

pub through : (ws vs : List Pending) (base array : List (List ℕ)) → HoldsSome (ws ++ vs) base array → Through ws vs base array
through [] vs base array some = record { middle = base; was = refl; later = some }
through (w ∷ ws) vs base array (inl some) = let t = through ws vs base array some in record { middle = t.middle; was = inl t.was; later = t.later }
through (w ∷ ws) vs base array (inr some) = let t = through ws vs (set base w.place w.block) array some in record { middle = t.middle; was = inr t.was; later = t.later }

-- ---- one block is applied, which lies apart from those before it

apart-places : (x w : Pending) → (x.place < w.place) ⊎ (w.place + 1 ≤ x.place) → x.place ≢ w.place
apart-places x w (inl less) same = omega (arith, less, same)
apart-places x w (inr more) same = omega (arith, more, same)

pub swapped : (base : List (List ℕ)) (x w : Pending) → (x.place < w.place) ⊎ (w.place + 1 ≤ x.place) → set (set base x.place x.block) w.place w.block ≡ set (set base w.place w.block) x.place x.block
swapped base x w apart = set_comm base x.place w.place x.block w.block (apart-places x w apart)

pub pulled : (xs ys : List Pending) (w : Pending) (base : List (List ℕ)) → AreApart w.place 1 xs → overlay (xs ++ ys) (set base w.place w.block) ≡ overlay (xs ++ w ∷ ys) base
pulled [] ys w base apart = refl
pulled (x ∷ xs) ys w base apart = ap (overlay (xs ++ ys)) (sym (swapped base x w apart.0)) ∙ pulled xs ys w (set base x.place x.block) apart.1

pub pulled_some : (xs ys : List Pending) (w : Pending) (base base' array : List (List ℕ)) → AreApart w.place 1 xs → (base' ≡ base) ⊎ (base' ≡ set base w.place w.block)
    → HoldsSome (xs ++ ys) base' array → HoldsSome (xs ++ w ∷ ys) base array
pulled_some [] ys w base base' array apart (inl same) some = inl (rw same at some)
pulled_some [] ys w base base' array apart (inr same) some = inr (rw same at some)
pulled_some (x ∷ xs) ys w base base' array apart either (inl some) = inl (pulled_some xs ys w base base' array apart.1 either some)
pulled_some (x ∷ xs) ys w base base' array apart (inl same) (inr some) =
    inr (pulled_some xs ys w (set base x.place x.block) (set base' x.place x.block) array apart.1 (inl (ap (λ (a : List (List ℕ)). set a x.place x.block) same)) some)
pulled_some (x ∷ xs) ys w base base' array apart (inr same) (inr some) =
    inr (pulled_some xs ys w (set base x.place x.block) (set base' x.place x.block) array apart.1
    (inr (ap (λ (a : List (List ℕ)). set a x.place x.block) same ∙ sym (swapped base x w apart.0))) some)

-- a write of one block
replaced_none : (ys : List (List ℕ)) → replaced ys zero [] ≡ ys
replaced_none [] = refl
replaced_none (y ∷ ys) = refl

pub replaced_one : (base : List (List ℕ)) (place : ℕ) (block : List ℕ) → replaced base place (block ∷ []) ≡ set base place block
replaced_one [] place block = refl
replaced_one (x ∷ xs) zero block = ap (λ ys. block ∷ ys) (replaced_none xs)
replaced_one (x ∷ xs) (suc place) block = ap (λ ys. x ∷ ys) (replaced_one xs place block)

-- an array that has or has not one block: it is the old one, or that with the block
pub torn_one : (base : List (List ℕ)) (place : ℕ) (block : List ℕ) (array : List (List ℕ)) → IsTorn base place (block ∷ []) array
    → (array ≡ base) ⊎ (array ≡ set base place block)
torn_one base place block array t = elim (t.either place) [
  | inl e ↦ inl (ext_get_or [] array base t.length_is (λ i lt. elim (cases_eq i place) [ inl same ↦ rw same e | inr far ↦ other i far ]))
  | inr e ↦ inr (ext_get_or [] array (set base place block) (t.length_is ∙ sym (length-set base place block))
      (λ i lt. elim (cases_eq i place) [
        | inl same ↦ rw same (e ∙ ap (λ (a : List (List ℕ)). get_or a place []) (replaced_one base place block))
        | inr far ↦ other i far ∙ sym (get_or-set_other base place i block [] far)
      ]))
]
  where
    other : (i : ℕ) → i ≢ place → get_or array i [] ≡ get_or base i []
    other i far = elim (t.either i) [
      | inl h ↦ h
      | inr h ↦ h ∙ (ap (λ (a : List (List ℕ)). get_or a i []) (replaced_one base place block) ∙ get_or-set_other base place i block [] far)
    ]

-- ---- the blocks of a write

replaced_cons : (base : List (List ℕ)) (first : ℕ) (x : List ℕ) (xs : List (List ℕ)) → replaced base first (x ∷ xs) ≡ replaced (set base first x) (suc first) xs
replaced_cons [] first x xs = refl
replaced_cons (y ∷ ys) zero x xs = refl
replaced_cons (y ∷ ys) (suc first) x xs = ap (λ zs. y ∷ zs) (replaced_cons ys first x xs)

replaced_below : (base : List (List ℕ)) (k : ℕ) (xs : List (List ℕ)) (p : ℕ) → p < k → get_or (replaced base k xs) p [] ≡ get_or base p []
replaced_below [] k xs p lt = refl
replaced_below (y ∷ ys) zero xs p lt = absurd (omega (arith, lt))
replaced_below (y ∷ ys) (suc k) xs zero lt = refl
replaced_below (y ∷ ys) (suc k) xs (suc p) lt = replaced_below ys k xs p (omega (arith, lt))

replaced_set : (base : List (List ℕ)) (first k : ℕ) (x : List ℕ) (xs : List (List ℕ)) (p : ℕ) → p ≢ first → get_or (replaced (set base first x) k xs) p [] ≡ get_or (replaced base k xs) p []
replaced_set [] first k x xs p far = refl
replaced_set (y ∷ ys) zero (suc k) x xs zero far = absurd (far refl)
replaced_set (y ∷ ys) zero (suc k) x xs (suc p) far = refl
replaced_set (y ∷ ys) zero zero x [] zero far = absurd (far refl)
replaced_set (y ∷ ys) zero zero x [] (suc p) far = refl
replaced_set (y ∷ ys) zero zero x (z ∷ zs) p far = refl
replaced_set (y ∷ ys) (suc first) (suc k) x xs zero far = refl
replaced_set (y ∷ ys) (suc first) (suc k) x xs (suc p) far = replaced_set ys first k x xs p (λ e. far (ap suc e))
replaced_set (y ∷ ys) (suc first) zero x [] zero far = refl
replaced_set (y ∷ ys) (suc first) zero x [] (suc p) far = get_or-set_other ys first p x [] (λ e. far (ap suc e))
replaced_set (y ∷ ys) (suc first) zero x (z ∷ zs) zero far = refl
replaced_set (y ∷ ys) (suc first) zero x (z ∷ zs) (suc p) far = replaced_set ys first zero x zs p (λ e. far (ap suc e))

pub nothing_replaced : (b : List (List ℕ)) (k : ℕ) → replaced b k [] ≡ b
nothing_replaced [] k = refl
nothing_replaced (y ∷ ys) zero = refl
nothing_replaced (y ∷ ys) (suc k) = ap (λ zs. y ∷ zs) (nothing_replaced ys k)

-- the pieces of a write are the write
pub overlay_pieces : (base : List (List ℕ)) (first : ℕ) (blocks : List (List ℕ)) → overlay (pieces first blocks) base ≡ replaced base first blocks
overlay_pieces base first [] = sym (nothing_replaced base first)
overlay_pieces base first (x ∷ xs) = overlay_pieces (set base first x) (suc first) xs ∙ sym (replaced_cons base first x xs)

-- any of the pieces make a torn write
pub torn_pieces : (base : List (List ℕ)) (first : ℕ) (blocks array : List (List ℕ)) → HoldsSome (pieces first blocks) base array → IsTorn base first blocks array
torn_pieces base first [] array same = record { length_is = ap length same; either = λ p. inl (ap (λ (a : List (List ℕ)). get_or a p []) same) }
torn_pieces base first (x ∷ xs) array (inl some) =
    let t = torn_pieces base (suc first) xs array some in
    record {
      length_is = t.length_is;
      either = λ p. elim (t.either p) [
        | inl e ↦ inl e
        | inr e ↦ elim (cases_eq p first) [
          | inl same ↦ inl (e ∙ replaced_below base (suc first) xs p (omega (arith, same)))
          | inr far ↦ inr (e ∙ (sym (replaced_set base first (suc first) x xs p far) ∙ at p))
        ]
      ];
    }
  where
    at : (p : ℕ) → get_or (replaced (set base first x) (suc first) xs) p [] ≡ get_or (replaced base first (x ∷ xs)) p []
    at p = ap (λ (a : List (List ℕ)). get_or a p []) (sym (replaced_cons base first x xs))
torn_pieces base first (x ∷ xs) array (inr some) =
    let t = torn_pieces (set base first x) (suc first) xs array some in
    record {
      length_is = t.length_is ∙ length-set base first x;
      either = λ p. elim (t.either p) [
        | inl e ↦ elim (cases_eq p first) [
          | inl same ↦ inr (e ∙ (sym (replaced_below (set base first x) (suc first) xs p (omega (arith, same))) ∙ at p))
          | inr far ↦ inl (e ∙ get_or-set_other base first p x [] far)
        ]
        | inr e ↦ inr (e ∙ at p)
      ];
    }
  where
    at : (p : ℕ) → get_or (replaced (set base first x) (suc first) xs) p [] ≡ get_or (replaced base first (x ∷ xs)) p []
    at p = ap (λ (a : List (List ℕ)). get_or a p []) (sym (replaced_cons base first x xs))

-- ---- a write below blocks that are pending above

set_same : (xs ys : List (List ℕ)) (p : ℕ) (x : List ℕ) → length xs ≡ length ys → get_or (set xs p x) p [] ≡ get_or (set ys p x) p []
set_same [] [] p x same = refl
set_same [] (y ∷ ys) p x same = absurd (omega (arith, same))
set_same (x ∷ xs) [] p z same = absurd (omega (arith, same))
set_same (x ∷ xs) (y ∷ ys) zero z same = refl
set_same (x ∷ xs) (y ∷ ys) (suc p) z same = set_same xs ys p z (omega (arith, same))

torn_set : (base : List (List ℕ)) (p : ℕ) (x : List ℕ) (first : ℕ) (blocks new : List (List ℕ)) → IsTorn base first blocks new → IsTorn (set base p x) first blocks (set new p x)
torn_set base p x first blocks new t = record {
  length_is = length-set new p x ∙ t.length_is ∙ sym (length-set base p x);
  either = λ q. elim (cases_eq q p) [
    | inl same ↦ inl (rw same (set_same new base p x t.length_is))
    | inr far ↦ elim (t.either q) [
      | inl e ↦ inl (get_or-set_other new p q x [] far ∙ e ∙ sym (get_or-set_other base p q x [] far))
      | inr e ↦ inr (get_or-set_other new p q x [] far ∙ e ∙ sym (replaced_set base p first x blocks q far))
    ]
  ];
}

pub record Under (ws : List Pending) (base : List (List ℕ)) (first : ℕ) (blocks array : List (List ℕ)) : Type 0 where
  pub before : List (List ℕ)
  pub was : HoldsSome ws base before
  pub part : IsTorn before first blocks array

pub torn_under : (ws : List Pending) (base new : List (List ℕ)) (first : ℕ) (blocks array : List (List ℕ)) → IsTorn base first blocks new → HoldsSome ws new array → Under ws base first blocks array
torn_under [] base new first blocks array torn some = record { before = base; was = refl; part = rw some torn }
torn_under (w ∷ ws) base new first blocks array torn (inl some) =
    let u = torn_under ws base new first blocks array torn some in
    record { before = u.before; was = inl u.was; part = u.part }
torn_under (w ∷ ws) base new first blocks array torn (inr some) =
    let u = torn_under ws (set base w.place w.block) (set new w.place w.block) first blocks array (torn_set base w.place w.block first blocks new torn) some in
    record { before = u.before; was = inr u.was; part = u.part }
