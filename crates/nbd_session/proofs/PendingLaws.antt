-- Blocks that are pending above a disk: what of an array they do not change, and what a write of them may leave.
use Rattle.std.proofs.Common.{◌≡◌, ◌≢◌, ℕ, zero, suc, ◌+◌, ◌<◌, ◌≤◌, List, [], ◌∷◌, length, map, get_or, set, take, true, false, refl, ap, sym, inl, inr, ◌∙◌, arith, get_or-set_other}
use Rattle.std.specs.Prelude.{◌⊎◌, Bool, Contains, nat_eq}
use Rattle.std.specs.List.{AllByRecursion, IsDistinct}
use Rattle.std.proofs.lemmas.Bool.{eq-eqb, eqb-true}
use Rattle.std.proofs.lemmas.List.{length-set}
use Rattle.zone_translator.specs.Flat.{IsFront, IsListFront, Put, put_all, replaced}
use Rattle.nbd_session.specs.Laws.{AgreeOn}
use Rattle.nbd_session.specs.Pending.{AreApart, HoldsSome, Pending, overlay}
use Rattle.nbd_session.specs.Store.{IsListTorn, IsTorn}

-- ---- blocks that lie apart

apart-other : (place first n other : ℕ) → first ≤ place → place < first + n → (other < first) ⊎ (first + n ≤ other) → place ≢ other
apart-other place first n other from below (inl less) same = omega (arith, from, less, same)
apart-other place first n other from below (inr more) same = omega (arith, below, more, same)

-- some of them leave a block as it was
pub some-apart : (ws : List Pending) (base new : List (List ℕ)) (first n : ℕ) → HoldsSome ws base new → AreApart first n ws → AgreeOn first n new base
some-apart [] base new first n some apart place from below = ap (λ (a : List (List ℕ)). get_or a place []) some
some-apart (w ∷ ws) base new first n (inl some) apart place from below = some-apart ws base new first n some apart.1 place from below
some-apart (w ∷ ws) base new first n (inr some) apart place from below =
    some-apart ws (set base w.place w.block) new first n some apart.1 place from below
    ∙ get_or-set_other base w.place place w.block [] (apart-other place first n w.place from below apart.0)

-- and so do all
pub all-apart : (ws : List Pending) (base : List (List ℕ)) (first n : ℕ) → AreApart first n ws → AgreeOn first n (overlay ws base) base
all-apart ws base first n = some-apart ws base (overlay ws base) first n (all-some ws base)
  where
    all-some : (ws : List Pending) (base : List (List ℕ)) → HoldsSome ws base (overlay ws base)
    all-some [] base = refl
    all-some (w ∷ ws) base = inr (all-some ws (set base w.place w.block))

-- where nothing is pending, some are none
pub none-some : (ws : List Pending) (base new : List (List ℕ)) → ws ≡ [] → HoldsSome ws base new → new ≡ overlay ws base
none-some [] base new none some = some
none-some (w ∷ ws) base new none some = absurd (cc none)

-- nothing that is pending lies anywhere
pub none-apart : (ws : List Pending) (first n : ℕ) → ws ≡ [] → AreApart first n ws
none-apart ws first n none = rw none tt

-- nothing is in no list
pub in-none : (w : Pending) → Contains [] w → ⊥
in-none w found = omega (arith, found.1)

-- where nothing was pending, and nothing came to it, nothing is
pub none-more : (old new : List Pending) → old ≡ [] → ((w : Pending) → Contains new w → Contains old w) → new ≡ []
none-more old [] none from = refl
none-more old (w ∷ ws) none from = absurd (in-none w ((rw none at from) w (zero, omega arith, refl)))

-- ---- a write of which a part is done

-- of a front of a write, each block is the old one or the new one
front-either : (old : List (List ℕ)) (first done : ℕ) (blocks : List (List ℕ)) (place : ℕ)
    → (get_or (replaced old first (take done blocks)) place [] ≡ get_or old place []) ⊎ (get_or (replaced old first (take done blocks)) place [] ≡ get_or (replaced old first blocks) place [])
front-either [] first done blocks place = inl refl
front-either (x ∷ xs) (suc first) done blocks zero = inl refl
front-either (x ∷ xs) (suc first) done blocks (suc place) = front-either xs first done blocks place
front-either (x ∷ xs) zero zero blocks place = inl refl
front-either (x ∷ xs) zero (suc done) [] place = inl refl
front-either (x ∷ xs) zero (suc done) (y ∷ ys) zero = inr refl
front-either (x ∷ xs) zero (suc done) (y ∷ ys) (suc place) = front-either xs zero done ys place

length-replaced : (old : List (List ℕ)) (first : ℕ) (blocks : List (List ℕ)) → length (replaced old first blocks) ≡ length old
length-replaced [] first blocks = refl
length-replaced (x ∷ xs) (suc first) blocks = ap suc (length-replaced xs first blocks)
length-replaced (x ∷ xs) zero [] = refl
length-replaced (x ∷ xs) zero (y ∷ ys) = ap suc (length-replaced xs zero ys)

-- a front of a write is a part of it
pub front-torn : (old : List (List ℕ)) (first : ℕ) (blocks new : List (List ℕ)) → IsFront old first blocks new → IsTorn old first blocks new
front-torn old first blocks new front = rw front.written record {
  length_is = length-replaced old first (take front.done blocks);
  either = front-either old first front.done blocks;
}

-- and so is nothing
pub same-torn : (old : List (List ℕ)) (first : ℕ) (blocks new : List (List ℕ)) → new ≡ old → IsTorn old first blocks new
same-torn old first blocks new same = record { length_is = ap length same; either = λ place. inl (ap (λ (a : List (List ℕ)). get_or a place []) same) }

-- ---- a list of which a part is done

length-put : (ps : List Put) (array : List (List ℕ)) → length (put_all array ps) ≡ length array
length-put [] array = refl
length-put (p ∷ ps) array = length-put ps (set array p.block p.content) ∙ length-set array p.block p.content

-- a block that a list does not name stays
put-elsewhere : (ps : List Put) (array : List (List ℕ)) (k : ℕ) → AllByRecursion (λ y. nat_eq k y ≡ false) (map (λ (p : Put). p.block) ps) → get_or (put_all array ps) k [] ≡ get_or array k []
put-elsewhere [] array k far = refl
put-elsewhere (p ∷ ps) array k far = put-elsewhere ps (set array p.block p.content) k far.1 ∙ get_or-set_other array p.block k p.content [] (λ same. cc (sym far.0 ∙ eq-eqb k p.block same))

-- of a front of a list, each block is the old one or the new one, since none is named twice
list-either : (ps : List Put) (array : List (List ℕ)) (done place : ℕ) → IsDistinct nat_eq (map (λ (p : Put). p.block) ps)
    → (get_or (put_all array (take done ps)) place [] ≡ get_or array place []) ⊎ (get_or (put_all array (take done ps)) place [] ≡ get_or (put_all array ps) place [])
unfolding IsDistinct
list-either ps array zero place distinct = inl refl
list-either [] array (suc done) place distinct = inl refl
list-either (p ∷ ps) array (suc done) place distinct = by (nat_eq place p.block) refl (list-either ps (set array p.block p.content) done place distinct.1)
  where
    next : List (List ℕ)
    next = set array p.block p.content

    by : (here : Bool) → nat_eq place p.block ≡ here
        → (get_or (put_all next (take done ps)) place [] ≡ get_or next place []) ⊎ (get_or (put_all next (take done ps)) place [] ≡ get_or (put_all next ps) place [])
        → (get_or (put_all next (take done ps)) place [] ≡ get_or array place []) ⊎ (get_or (put_all next (take done ps)) place [] ≡ get_or (put_all next ps) place [])
    by here is (inr all) = inr all
    by true is (inl none) =
        let at : place ≡ p.block = eqb-true place p.block is in
        inr (none ∙ sym (put-elsewhere ps next place (rw at distinct.0)))
    by false is (inl none) = inl (none ∙ get_or-set_other array p.block place p.content [] (λ same. cc (sym is ∙ eq-eqb place p.block same)))

-- a front of a list is a part of it
pub list-torn : (old : List (List ℕ)) (puts : List Put) (new : List (List ℕ)) → IsDistinct nat_eq (map (λ (p : Put). p.block) puts) → IsListFront old puts new → IsListTorn old puts new
list-torn old puts new distinct front = rw front.written record {
  length_is = length-put (take front.done puts) old;
  either = λ place. list-either puts old front.done place distinct;
}
