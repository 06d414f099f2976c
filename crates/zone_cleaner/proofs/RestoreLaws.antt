-- What was moved has its old place again.
use Rattle.std.proofs.Common.{◌≡◌, ◌≢◌, ◌⊎◌, ℕ, zero, suc, ◌+◌, ◌<◌, ◌≤◌, ◌^◌, Bool, true, false, ◌||◌, ◌&&◌, cond, eqb, ltb, List, [], ◌∷◌, length, map, set, get_or, refl, sym, ap, subst, ◌∙◌, inl, inr, arith}
use Rattle.std.specs.List.{AllByRecursion, list_any}
use Rattle.std.proofs.lemmas.Bool.{cases_eq, cases_lt, eq-eqb, lt-ltb, ne_eqb, eqb-true}
use Rattle.std.proofs.lemmas.List.{get_or-set_other, get_or-set_same, get_or_past, length-map, length-set}
use Rattle.std.proofs.Math.ListN.{get_or-map}
use Rattle.logical_map.specs.Live.{lies_in}
use Rattle.logical_map.specs.Places.{place_address}
use Rattle.logical_map.specs.declared.place.Place.{Place}
use Rattle.logical_map.specs.declared.place.Place.TheVariants as places
use Rattle.drive_array.proofs.AllLaws.{all-weaker}
use Rattle.zone_cleaner.specs.declared.moved.Moved.{Moved}
use Rattle.zone_cleaner.specs.Clean.{place_among, trims}
use Rattle.zone_cleaner.specs.Undoing.{can_put, put_back, put_one}
use Rattle.zone_cleaner.proofs.UndoLaws.{lies-below}

-- lists with the same places
same-places : (xs ys : List Place) → length xs ≡ length ys → ((k : ℕ) → place_among xs k ≡ place_among ys k) → xs ≡ ys
same-places [] [] long each = refl
same-places [] (y ∷ ys) long each = absurd (omega (arith, long))
same-places (x ∷ xs) [] long each = absurd (omega (arith, long))
same-places (x ∷ xs) (y ∷ ys) long each =
    let first : x ≡ y = each 0 in
    ap (λ (p : Place). p ∷ xs) first ∙ ap (λ (ps : List Place). y ∷ ps) (same-places xs ys (omega (arith, long)) (λ k. each (suc k)))

-- as many places
pub length-put_back : (size zone : ℕ) (ms : List Moved) (all : List Place) → length (put_back size zone ms all) ≡ length all
length-put_back size zone [] all = refl
length-put_back size zone (m ∷ ms) all = length-put_back size zone ms (put_one size zone m all) ∙ by (can_put size zone m all)
  where
    by : (b : Bool) → length (cond b (set all m.block m.place) all) ≡ length all
    by true = length-set all m.block m.place
    by false = refl

-- What is needed to put back what was moved to a zone: of each block there it is known where it was, by the old places,
-- none of which is in the zone.
pub record Restores (size zone : ℕ) (ms : List Moved) (all old : List Place) : Type 0 where
  pub long : length old ≡ length all
  pub known : AllByRecursion (λ (m : Moved). lies_in size zone (place_among all m.block) ≡ true → place_among old m.block ≡ m.place) ms
  pub there : (k : ℕ) → lies_in size zone (place_among all k) ≡ true → list_any (λ (m : Moved). eqb m.block k) ms ≡ true
  pub other : (k : ℕ) → lies_in size zone (place_among all k) ≡ false → place_among old k ≡ place_among all k
  pub away : (k : ℕ) → lies_in size zone (place_among old k) ≡ false
  pub fits : (k : ℕ) → place_address (place_among old k) + 1 < 2 ^ 63

not-there : (size zone k : ℕ) (all old : List Place) (ms : List Moved) → Restores size zone ms all old → (p : Place) → place_among old k ≡ p → lies_in size zone p ≡ true → ⊥
not-there size zone k all old ms is p at there = let out = is.away k in let no = rw at at out in absurd (cc)

or-rest : (a b : Bool) → a ≡ false → (a || b) ≡ true → b ≡ true
or-rest true b not both = absurd (cc)
or-rest false b not both = both

-- one block is put back
step-there : (size zone : ℕ) (m : Moved) (ms : List Moved) (all old : List Place) → Restores size zone (m ∷ ms) all old → lies_in size zone (place_among all m.block) ≡ true → Restores size zone ms (set all m.block m.place) old
step-there size zone m ms all old is here =
    let was : place_among old m.block ≡ m.place = is.known.0 here in
    let below = lies-below size zone m.block all here in
    let now : place_among (set all m.block m.place) m.block ≡ m.place = get_or-set_same all m.block m.place places.None below in
    record {
      long = is.long ∙ sym (length-set all m.block m.place);
      known = all-weaker (λ (n : Moved). lies_in size zone (place_among all n.block) ≡ true → place_among old n.block ≡ n.place) (λ (n : Moved). lies_in size zone (place_among (set all m.block m.place) n.block) ≡ true → place_among old n.block ≡ n.place) ms
          (λ n known there. elim (cases_eq n.block m.block) as (λ _. place_among old n.block ≡ n.place) [
            | inl same ↦ absurd (not-there size zone m.block all old (m ∷ ms) is m.place was (rw (same, now) at there))
            | inr ne ↦ known (let apart = get_or-set_other all m.block n.block m.place places.None ne in rw apart at there)
          ]) is.known.1;
      there = λ k there. elim (cases_eq k m.block) as (λ _. list_any (λ (n : Moved). eqb n.block k) ms ≡ true) [
        | inl same ↦ absurd (not-there size zone m.block all old (m ∷ ms) is m.place was (rw (same, now) at there))
        | inr ne ↦ (let apart = get_or-set_other all m.block k m.place places.None ne in or-rest (eqb m.block k) (list_any (λ (n : Moved). eqb n.block k) ms) (ne_eqb m.block k (λ same. ne (sym same))) (is.there k (rw apart at there)))
      ];
      other = λ k out. elim (cases_eq k m.block) as (λ _. place_among old k ≡ place_among (set all m.block m.place) k) [
        | inl same ↦ rw same (was ∙ sym now)
        | inr ne ↦ (let apart = get_or-set_other all m.block k m.place places.None ne in is.other k (rw apart at out) ∙ sym apart)
      ];
      away = is.away;
      fits = is.fits;
    }

-- one that is elsewhere stays
step-away : (size zone : ℕ) (m : Moved) (ms : List Moved) (all old : List Place) → Restores size zone (m ∷ ms) all old → lies_in size zone (place_among all m.block) ≡ false → Restores size zone ms all old
step-away size zone m ms all old is out = record {
  long = is.long;
  known = is.known.1;
  there = λ k there. or-rest (eqb m.block k) (list_any (λ (n : Moved). eqb n.block k) ms) (ne_eqb m.block k (λ same. (let no = rw same at out in absurd (cc)))) (is.there k there);
  other = is.other;
  away = is.away;
  fits = is.fits;
}

put-there : (size zone : ℕ) (m : Moved) (all old : List Place) (ms : List Moved) → Restores size zone (m ∷ ms) all old → lies_in size zone (place_among all m.block) ≡ true → put_one size zone m all ≡ set all m.block m.place
put-there size zone m all old ms is here =
    let below = lies-below size zone m.block all here in
    let fits : place_address m.place + 1 < 2 ^ 63 = rw (is.known.0 here) at (is.fits m.block) in
    rw (lt-ltb m.block (length all) below, here, lt-ltb (place_address m.place + 1) (2 ^ 63) fits) refl

put-away : (size zone : ℕ) (m : Moved) (all : List Place) → lies_in size zone (place_among all m.block) ≡ false → put_one size zone m all ≡ all
put-away size zone m all out = rw out (by (ltb m.block (length all)))
  where
    by : (b : Bool) → cond (b && false) (set all m.block m.place) all ≡ all
    by true = refl
    by false = refl

-- all are put back
pub put-back-is : (size zone : ℕ) (ms : List Moved) (all old : List Place) → Restores size zone ms all old → put_back size zone ms all ≡ old
put-back-is size zone [] all old is = same-places all old (sym is.long) (λ k. at k (lies_in size zone (place_among all k)) refl)
  where
    at : (k : ℕ) (b : Bool) → lies_in size zone (place_among all k) ≡ b → place_among all k ≡ place_among old k
    at k true e = absurd (let none = is.there k e in cc)
    at k false e = sym (is.other k e)
put-back-is size zone (m ∷ ms) all old is = by (lies_in size zone (place_among all m.block)) refl (λ all is. put-back-is size zone ms all old is)
  where
    by : (b : Bool) → lies_in size zone (place_among all m.block) ≡ b → ((all : List Place) → Restores size zone ms all old → put_back size zone ms all ≡ old) → put_back size zone (m ∷ ms) all ≡ old
    by true e rest = ap (put_back size zone ms) (put-there size zone m all old ms is e) ∙ rest (set all m.block m.place) (step-there size zone m ms all old is e)
    by false e rest = ap (put_back size zone ms) (put-away size zone m all e) ∙ rest all (step-away size zone m ms all old is e)
