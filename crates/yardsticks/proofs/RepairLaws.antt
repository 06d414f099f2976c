-- The one torn zone, and its repair.
use Rattle.std.proofs.Common.{◌≡◌, inl, inr, ℕ, zero, suc, ◌+◌, ◌<◌, Bool, List, [], ◌∷◌, length, refl, sym, ◌∙◌, arith}
use Rattle.std.proofs.lemmas.Bool.{cases_eq, cases_lt}
use Rattle.zone_states.specs.declared.geometry.Geometry.{Geometry}
use Rattle.batch_log.specs.Log.{Batch}
use Rattle.drive_array.specs.Repair.{CanRepair, Fits, IsTornAt}
use Rattle.drive_array.specs.ZoneLogs.{log_at}
use Rattle.yardsticks.specs.Zones.{NoneTorn}

has-log : (logs : List (List Batch)) (zone : ℕ) → (log_at logs zone ≡ [] → ⊥) → zone < length logs
has-log [] zone some = absurd (some refl)
has-log (l ∷ ls) zero some = omega arith
has-log (l ∷ ls) (suc zone) some = omega (arith, has-log ls zone some)

torn-inside : (logs : List (List Batch)) (tails : List Bool) (zone : ℕ) → IsTornAt logs tails zone → zone < length logs
torn-inside logs tails zone is = has-log logs zone is.batch

-- one torn zone that fits can be repaired
pub one-torn : (geometry : Geometry) (limit size zone : ℕ) (logs : List (List Batch)) (tails : List Bool) → NoneTorn logs tails 0 zone → NoneTorn logs tails (zone + 1) (length logs)
    → Fits geometry limit size logs zone → CanRepair geometry limit size logs tails
one-torn geometry limit size zone logs tails below above fits = record {
  one = λ a b is is'. only a is ∙ sym (only b is');
  fits = λ a is. rw (only a is) fits;
}
  where
    only : (a : ℕ) → IsTornAt logs tails a → a ≡ zone
    only a is = elim (cases_lt a zone) as (λ _. a ≡ zone) [
      | inl lt ↦ absurd (below a (omega arith) lt is)
      | inr ge ↦ (elim (cases_eq a zone) as (λ _. a ≡ zone) [ inl same ↦ same | inr apart ↦ absurd (above a (omega arith) (torn-inside logs tails a is) is) ])
    ]
