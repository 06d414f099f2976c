-- Which blocks stay pending, and of which kind those are that come to them.
use Rattle.std.proofs.Common.{◌≡◌, ◌≢◌, ◌∙◌, ℕ, zero, suc, ◌+◌, ◌-◌, ◌<◌, ◌≤◌, List, [], ◌∷◌, ◌++◌, length, length-drop, drop, drop-drop, refl, ap, arith, inl, inr}
use Rattle.std.proofs.lemmas.Bool.{cases_Bool, cases_lt, eqb-true}
use Rattle.std.proofs.lemmas.List.Elements.{Contains-append_cases}
use Rattle.std.specs.Prelude.{◌==◌, Bool, Contains}
use Rattle.volatile_cache.specs.Cache.{AddsOnly, Cache, HasOnly, LeavesOthers, MakesRoom}
use Rattle.volatile_cache.specs.Queue.{is_trim, without_oldest}
use Rattle.volatile_cache.specs.declared.kept.Kept.{Kept}
use Rattle.volatile_cache.proofs.KeptLaws.{without-here, without-other}
use Rattle.volatile_cache.proofs.Lists.{in_one, is_first, is_later}

-- ---- the oldest blocks

drop-only : (n : ℕ) (kept : List Kept) (k : Kept) → Contains (drop n kept) k → Contains kept k
drop-only zero [] k found = found
drop-only (suc n) [] k found = found
drop-only zero (x ∷ xs) k found = found
drop-only (suc n) (x ∷ xs) k found = is_later x xs k (drop-only n xs k found)

drop-none : (kept : List Kept) → kept ≡ drop 0 kept
drop-none [] = refl
drop-none (k ∷ ks) = refl

pub only_same : {S : Type 0} (old new : Cache S) → new.kept ≡ old.kept → HasOnly old new
only_same old new kept k found = rw kept at found

pub only_again : {S : Type 0} (a b c : Cache S) → HasOnly a b → HasOnly b c → HasOnly a c
only_again a b c x y k found = x k (y k found)

pub only_fewer : {S : Type 0} (old new : Cache S) → new.kept ≡ drop 1 old.kept → HasOnly old new
only_fewer old new kept k found = drop-only 1 old.kept k (rw kept at found)

pub only_room : {S : Type 0} (old new : Cache S) (n : ℕ) → MakesRoom old n new → HasOnly old new
only_room old new n r k found = drop-only r.count old.kept k (rw r.kept at found)

-- nothing is applied
pub room_same : {S : Type 0} (cache : Cache S) (n : ℕ) → MakesRoom cache n cache
room_same cache n = record { count = 0; kept = drop-none cache.kept; needed = λ fewer less. absurd (omega (arith, less)) }

-- one that stays, as it was refused
pub room_refused : {S : Type 0} (a b c : Cache S) (n : ℕ) → MakesRoom a n b → c.kept ≡ b.kept → MakesRoom a n c
room_refused a b c n r kept = record { count = r.count; kept = kept ∙ r.kept; needed = r.needed }

-- one more is applied, as there is no room
pub room_more : {S : Type 0} (a b c : Cache S) (n : ℕ) → MakesRoom a n b → b.most ≡ a.most → b.most < length b.kept + n → c.kept ≡ drop 1 b.kept → MakesRoom a n c
room_more a b c n r most full kept = record {
  count = r.count + 1;
  kept = kept ∙ (ap (λ (ks : List Kept). drop 1 ks) r.kept ∙ drop-drop 1 r.count a.kept);
  needed = needed;
}
  where
    long : length b.kept ≡ length a.kept - r.count
    long = ap length r.kept ∙ length-drop r.count a.kept

    needed : (fewer : ℕ) → fewer < r.count + 1 → a.most < length a.kept - fewer + n
    needed fewer less = elim (cases_lt fewer r.count) [
      | inl before ↦ r.needed fewer before
      | inr last ↦
          let is : fewer ≡ r.count = omega (arith, less, last) in
          rw is (omega (arith, most, full, long))
    ]

-- ---- of which kind those are that come

pub adds_of : {S : Type 0} (kind : Bool) (old new : Cache S) → HasOnly old new → AddsOnly kind old new
adds_of kind old new only k found = inl (only k found)

pub adds_after : {S : Type 0} (kind : Bool) (a b c : Cache S) → HasOnly a b → AddsOnly kind b c → AddsOnly kind a c
adds_after kind a b c only adds k found = elim (adds k found) [
  | inl was ↦ inl (only k was)
  | inr is ↦ inr is
]

pub adds_one : {S : Type 0} (kind : Bool) (a b c : Cache S) (k : Kept) → AddsOnly kind a b → is_trim k.content ≡ kind → c.kept ≡ b.kept ++ k ∷ [] → AddsOnly kind a c
adds_one kind a b c k adds is kept x found = elim (Contains-append_cases b.kept (k ∷ []) x (rw kept at found)) [
  | inl was ↦ adds x was
  | inr last ↦ inr (ap (λ (y : Kept). is_trim y.content) (in_one k x last) ∙ is)
]

-- ---- the blocks of other places

without-others : (place : ℕ) (kept : List Kept) (k : Kept) → k.place ≢ place → Contains kept k → Contains (without_oldest place kept) k
without-others place [] k far found = found
without-others place (x ∷ xs) k far found = elim (cases_Bool (x.place == place)) [
  | inl here ↦ rw (without-here place x xs here) (elim (Contains-append_cases (x ∷ []) xs k found) [
    | inl first ↦ absurd (far (ap (λ (y : Kept). y.place) (in_one x k first) ∙ eqb-true x.place place here))
    | inr later ↦ later
  ])
  | inr other ↦ rw (without-other place x xs other) (elim (Contains-append_cases (x ∷ []) xs k found) [
    | inl first ↦ rw (in_one x k first) (is_first x (without_oldest place xs))
    | inr later ↦ is_later x (without_oldest place xs) k (without-others place xs k far later)
  ])
]

pub others_same : {S : Type 0} (first n : ℕ) (cache : Cache S) → LeavesOthers first n cache cache
others_same first n cache k found other = found

pub others_refused : {S : Type 0} (first n : ℕ) (a b c : Cache S) → LeavesOthers first n a b → c.kept ≡ b.kept → LeavesOthers first n a c
others_refused first n a b c leaves kept k found other = rw kept (leaves k found other)

pub others_more : {S : Type 0} (first n place : ℕ) (a b c : Cache S) → LeavesOthers first n a b → first ≤ place → place - first < n → c.kept ≡ without_oldest place b.kept → LeavesOthers first n a c
others_more first n place a b c leaves from before kept k found other = rw kept (without-others place b.kept k far (leaves k found other))
  where
    far : k.place ≢ place
    far at = elim other [
      | inl less ↦ absurd (omega (arith, at, less, from))
      | inr past ↦ absurd (omega (arith, at, past, before, from))
    ]
