-- What a cut leaves.
use Rattle.std.proofs.Common.{◌≡◌, ℕ, zero, suc, ◌<◌, ◌≤◌, List, [], ◌∷◌, ◌++◌, length, get_or, set, refl, sym, ap, inl, inr, ◌∙◌, arith, get_or-set_other, get_or-set_same}
use Rattle.std.proofs.lemmas.Bool.{cases_eq}
use Rattle.std.proofs.lemmas.List.Elements.{Contains-append_left, Contains-append_cases}
use Rattle.std.specs.Prelude.{◌⊎◌}
use Rattle.nbd_session.specs.Pending.{AreApart, Pending}
use Rattle.nbd_session.specs.Store.{store_array}
use Rattle.nbd_session.proofs.PendingLaws.{all-apart, some-apart}
use Rattle.volatile_cache.specs.Laws.{CutIsForeseen, CutKeepsSettled, KillIsOutcome, NothingIsMadeUp, WasPending}
use Rattle.volatile_cache.specs.Outcomes.{outcomes}
use Rattle.volatile_cache.proofs.Lists.{in_flat_map, in_one, is_one, is_first, is_later}
use Rattle.volatile_cache.proofs.OutcomeLaws.{cached_array, outcome_some}

pub kill-outcome : KillIsOutcome
kill-outcome [] array = is_one array
kill-outcome (w ∷ ws) array = Contains-append_left (outcomes ws array) (outcomes ws (set array w.place w.block)) array (kill-outcome ws array)

pub cut-foreseen : CutIsForeseen
cut-foreseen below mine left was found = in_flat_map (outcomes mine) below.since (store_array below) left was found

second-apart : (xs ys : List Pending) (first n : ℕ) → AreApart first n (xs ++ ys) → AreApart first n ys
second-apart [] ys first n apart = apart
second-apart (x ∷ xs) ys first n apart = second-apart xs ys first n apart.1

pub cut-settled : CutKeepsSettled
cut-settled below mine left place block settled found =
    let apart = second-apart below.pending mine place 1 settled.apart in
    some-apart mine (store_array below) left place 1 (outcome_some mine (store_array below) left found) apart place (omega arith) (omega arith)
    ∙ sym (all-apart mine (store_array below) place 1 apart place (omega arith) (omega arith))
    ∙ ap (λ (a : List (List ℕ)). get_or a place []) (sym (cached_array below mine))
    ∙ settled.serves

-- past the end nothing is written
set-past : (array : List (List ℕ)) (place : ℕ) (block : List ℕ) → length array ≤ place → set array place block ≡ array
set-past [] place block past = refl
set-past (x ∷ xs) zero block past = absurd (omega (arith, past))
set-past (x ∷ xs) (suc place) block past = ap (λ (ys : List (List ℕ)). x ∷ ys) (set-past xs place block (omega (arith, past)))

later-pending : (w : Pending) (ws : List Pending) (place : ℕ) (block : List ℕ) → WasPending ws place block → WasPending (w ∷ ws) place block
later-pending w ws place block p = record { w = p.w; is_there = is_later w ws p.w p.is_there; place_is = p.place_is; block_is = p.block_is }

-- the block of an array on which one was written
written-here : (w : Pending) (ws : List Pending) (array : List (List ℕ)) (place : ℕ) (block : List ℕ) → block ≡ get_or (set array w.place w.block) place []
    → (block ≡ get_or array place []) ⊎ WasPending (w ∷ ws) place block
written-here w ws array place block is = elim (cases_eq place w.place) [
  | inr far ↦ inl (is ∙ get_or-set_other array w.place place w.block [] far)
  | inl same ↦ elim (within-or-past w.place (length array)) [
    | inl within ↦ inr (record { w = w; is_there = is_first w ws; place_is = sym same; block_is = sym (is ∙ rw same (get_or-set_same array w.place w.block [] within)) })
    | inr past ↦ inl (is ∙ ap (λ (a : List (List ℕ)). get_or a place []) (set-past array w.place w.block past))
  ]
]
  where
    within-or-past : (k n : ℕ) → (k < n) ⊎ (n ≤ k)
    within-or-past k zero = inr (omega arith)
    within-or-past zero (suc n) = inl (omega arith)
    within-or-past (suc k) (suc n) = elim (within-or-past k n) [ inl h ↦ inl (omega (arith, h)) | inr h ↦ inr (omega (arith, h)) ]

pub nothing-made_up : NothingIsMadeUp
nothing-made_up [] array left place found = inl (ap (λ (a : List (List ℕ)). get_or a place []) (in_one array left found))
nothing-made_up (w ∷ ws) array left place found = elim (Contains-append_cases (outcomes ws array) (outcomes ws (set array w.place w.block)) left found) [
  | inl without ↦ elim (nothing-made_up ws array left place without) [
    | inl same ↦ inl same
    | inr was ↦ inr (later-pending w ws place (get_or left place []) was)
  ]
  | inr with_it ↦ elim (nothing-made_up ws (set array w.place w.block) left place with_it) [
    | inl same ↦ written-here w ws array place (get_or left place []) same
    | inr was ↦ inr (later-pending w ws place (get_or left place []) was)
  ]
]
