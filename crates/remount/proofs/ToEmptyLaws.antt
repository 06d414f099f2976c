-- Which zones are vacant but not Empty.
use Rattle.std.proofs.Common.{◌≡◌, ◌≢◌, ◌⊎◌, inl, inr, ℕ, ◌+◌, ◌<◌, ◌≤◌, List, [], ◌∷◌, ◌++◌, map, length, get_or, Some, refl, sym, ap, ◌∙◌, arith}
use Rattle.std.specs.Prelude.{slice_get}
use Rattle.std.specs.List.{AllByRecursion, Contains}
use Rattle.std.proofs.lemmas.Bool.{cases_eq}
use Rattle.std.proofs.lemmas.List.Elements.{Contains-append_left, Contains-append_right}
use Rattle.std.proofs.lemmas.Option.{get_or_from_slice_get, slice_get_within}
use Rattle.std.proofs.Math.ListN.{get_or-map}
use Rattle.nvme_wire.specs.declared.zone_state.ZoneState.TheVariants.{Empty}
use Rattle.batch_log.specs.Log.{Batch, log_size}
use Rattle.drive_array.specs.Spare.{IsVacant}
use Rattle.drive_array.specs.ZoneLogs.{log_at}
use Rattle.drive_array.proofs.AllLaws.{all-append, all-weaker}
use Rattle.drive_survey.specs.declared.reported.ReportedZone.{ReportedZone}
use Rattle.drive_survey.specs.declared.survey.Survey.{Survey}
use Rattle.drive_survey.specs.Heads.{HeadsView, heads_of, no_heads}
use Rattle.remount.specs.Mount.{AreToEmpty}
use Rattle.remount.specs.Resets.{reported_empty}
use Rattle.drive_survey.specs.Scan.{heads_in}
use Rattle.drive_survey.proofs.TakeLaws.{blocks-are}

-- ---- a zone without a batch

heads-at : (logs : List (List Batch)) (zone : ℕ) → get_or (map heads_of logs) zone no_heads ≡ heads_of (log_at logs zone)
heads-at logs zone = get_or-map heads_of logs zone []

nothing-logged : (log : List Batch) → log_size log ≡ 0 → log ≡ []
nothing-logged [] none = refl
nothing-logged (b ∷ bs) none = absurd (omega (arith, none))

vacant-heads : (logs : List (List Batch)) (zone : ℕ) → (get_or (map heads_of logs) zone no_heads).blocks ≡ 0 → IsVacant logs zone
vacant-heads logs zone none = nothing-logged (log_at logs zone) (sym (blocks-are (log_at logs zone)) ∙ ap (λ (h : HeadsView). h.blocks) (sym (heads-at logs zone)) ∙ none)

heads-vacant : (logs : List (List Batch)) (zone : ℕ) → IsVacant logs zone → (get_or (map heads_of logs) zone no_heads).blocks ≡ 0
heads-vacant logs zone vacant = ap (λ (h : HeadsView). h.blocks) (heads-at logs zone ∙ ap heads_of vacant)

-- ---- the zones below one

abbrev HasNoBatch : Survey → ℕ → Type 0
HasNoBatch survey zone = (get_or (heads_in survey.scanned.items) zone no_heads).blocks ≡ 0

abbrev IsReset : Survey → ℕ → Type 0
IsReset survey zone = (get_or survey.zones.items zone reported_empty).state ≢ Empty

-- these are the zones below one that have no batch and are not Empty
pub record AreFound (survey : Survey) (zones : List ℕ) (below : ℕ) : Type 0 where
  pub vacant : AllByRecursion (λ zone. (zone < below) × HasNoBatch survey zone) zones
  pub needed : AllByRecursion (IsReset survey) zones
  pub others : (zone : ℕ) → zone < below → HasNoBatch survey zone → ((get_or survey.zones.items zone reported_empty).state ≡ Empty) ⊎ Contains zones zone

-- a zone that has no batch and is not Empty is added to the zones found
pub found-one : (survey : Survey) (zones more : List ℕ) (below : ℕ) → AreFound survey zones below → HasNoBatch survey below → IsReset survey below → more ≡ zones ++ below ∷ [] → AreFound survey more (below + 1)
found-one survey zones more below found none needed pushed = rw pushed (record {
  vacant = all-append (λ zone. (zone < below + 1) × HasNoBatch survey zone) zones (below ∷ [])
      (all-weaker (λ zone. (zone < below) × HasNoBatch survey zone) (λ zone. (zone < below + 1) × HasNoBatch survey zone) zones (λ zone is. (omega (arith, is.0), is.1)) found.vacant) ((omega arith, none), tt);
  needed = all-append (IsReset survey) zones (below ∷ []) found.needed (needed, tt);
  others = each;
})
  where
    each : (zone : ℕ) → zone < below + 1 → HasNoBatch survey zone → ((get_or survey.zones.items zone reported_empty).state ≡ Empty) ⊎ Contains (zones ++ below ∷ []) zone
    each zone lt none' = elim (cases_eq zone below) as (λ _. ((get_or survey.zones.items zone reported_empty).state ≡ Empty) ⊎ Contains (zones ++ below ∷ []) zone) [
      | inl same ↦ inr (Contains-append_right zones (below ∷ []) zone (0, omega arith, sym same))
      | inr other ↦ (elim (found.others zone (omega (arith, lt, other)) none') as (λ _. ((get_or survey.zones.items zone reported_empty).state ≡ Empty) ⊎ Contains (zones ++ below ∷ []) zone) [
        | inl is ↦ inl is
        | inr c ↦ inr (Contains-append_left zones (below ∷ []) zone c)
      ])
    ]

-- a zone that has a batch or is Empty is not added to the zones found
pub found-other : (survey : Survey) (zones : List ℕ) (below : ℕ) → AreFound survey zones below → (HasNoBatch survey below → (get_or survey.zones.items below reported_empty).state ≡ Empty) → AreFound survey zones (below + 1)
found-other survey zones below found empty = record {
  vacant = all-weaker (λ zone. (zone < below) × HasNoBatch survey zone) (λ zone. (zone < below + 1) × HasNoBatch survey zone) zones (λ zone is. (omega (arith, is.0), is.1)) found.vacant;
  needed = found.needed;
  others = λ zone lt none. elim (cases_eq zone below) as (λ _. ((get_or survey.zones.items zone reported_empty).state ≡ Empty) ⊎ Contains zones zone) [
    | inl same ↦ inl (rw same (empty (rw same at none)))
    | inr other ↦ found.others zone (omega (arith, lt, other)) none
  ];
}

-- ---- all of them

-- once all zones are looked at, the zones found are the zones to empty
pub found-all : (survey : Survey) (zones : List ℕ) (below : ℕ) (logs : List (List Batch)) → AreFound survey zones below → length survey.zones.items ≤ below → below ≤ length survey.zones.items → heads_in survey.scanned.items ≡ map heads_of logs → length survey.zones.items ≡ length logs → AreToEmpty logs survey zones
found-all survey zones below logs found le ge heads long = record {
  vacant = all-weaker (λ zone. (zone < below) × HasNoBatch survey zone) (λ zone. (zone < length logs) × IsVacant logs zone) zones (λ zone is. (omega (arith, is.0, ge, long), vacant-heads logs zone (ap (λ (hs : List HeadsView). (get_or hs zone no_heads).blocks) (sym heads) ∙ is.1))) found.vacant;
  needed = found.needed;
  others = each;
}
  where
    each : (zone : ℕ) (r : ReportedZone) → slice_get survey.zones.items zone ≡ Some r → IsVacant logs zone → (r.state ≡ Empty) ⊎ Contains zones zone
    each zone r there vacant =
        let lt : zone < below = omega (arith, slice_get_within survey.zones.items zone r there, le) in
        let value : get_or survey.zones.items zone reported_empty ≡ r = get_or_from_slice_get survey.zones.items zone r reported_empty there in
        elim (found.others zone lt (ap (λ (hs : List HeadsView). (get_or hs zone no_heads).blocks) heads ∙ heads-vacant logs zone vacant)) as (λ _. (r.state ≡ Empty) ⊎ Contains zones zone) [
          | inl is ↦ inl (ap (λ (x : ReportedZone). x.state) (sym value) ∙ is)
          | inr c ↦ inr c
        ]

-- those that were found are zones
pub found-inside : (survey : Survey) (zones : List ℕ) (below count : ℕ) → AreFound survey zones below → below ≤ count → AllByRecursion (λ zone. zone < count) zones
found-inside survey zones below count found le = all-weaker (λ zone. (zone < below) × HasNoBatch survey zone) (λ zone. zone < count) zones (λ zone is. omega (arith, is.0, le)) found.vacant
