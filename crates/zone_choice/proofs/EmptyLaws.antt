-- Counts of empty zones.
use Rattle.std.proofs.Common.{◌≡◌, ℕ, suc, ◌+◌, ◌-◌, ◌<◌, ◌≤◌, ◌^◌, Bool, true, false, cond, List, [], ◌∷◌, length, set, get_or, refl, ◌∙◌, min, inl, inr, arith}
use Rattle.std.specs.List.{count_by}
use Rattle.std.proofs.lemmas.Bool.{cases_eq, cases_lt}
use Rattle.std.proofs.lemmas.List.{get_or-set_same, get_or-set_other, get_or_past, length-set}
use Rattle.std.proofs.lemmas.List.Sums.{count_by-le-length, sum_by-set}
use Rattle.zone_choice.specs.Roles.{AreCounted, IsLowestIn}

count-none : (xs : List Bool) → ((k : ℕ) → get_or xs k false ≡ false) → count_by (λ b. b) xs ≡ 0
count-none [] none = refl
count-none (x ∷ xs) none = let here : x ≡ false = none 0 in rw here (count-none xs (λ k. none (suc k)))

-- if no zone is empty, none is counted
pub count-none_below : (xs : List Bool) (end : ℕ) → length xs ≤ end → ((k : ℕ) → k < end → get_or xs k false ≡ false) → count_by (λ b. b) xs ≡ 0
count-none_below xs end all none = count-none xs (λ k. elim (cases_lt k end) as (λ _. get_or xs k false ≡ false) [ inl lt ↦ none k lt | inr past ↦ get_or_past xs k false (omega arith) ])

-- one empty zone fewer
pub counted-take : (empty : List Bool) (count lowest zone : ℕ) → AreCounted empty count lowest → IsLowestIn empty zone → AreCounted (set empty zone false) (count - 1) (zone + 1)
counted-take empty count lowest zone was found =
    let lt = found.in_range in
    let fewer : count_by (λ (b : Bool). b) (set empty zone false) + 1 ≡ count_by (λ (b : Bool). b) empty + 0 = rw found.is_empty at (sum_by-set (λ (b : Bool). cond {A = ℕ} b 1 0) empty zone false false lt) in
    let long : length (set empty zone false) ≡ length empty = length-set empty zone false in
    let gone : get_or (set empty zone false) zone false ≡ false = get_or-set_same empty zone false false lt in
    record {
      few = omega (arith, was.few, long);
      count_is = omega (arith, was.count_is, fewer);
      none_below = λ k h. elim (cases_eq k zone) as (λ _. get_or (set empty zone false) k false ≡ false) [
        | inl same ↦ rw same gone
        | inr other ↦ rw (get_or-set_other empty zone k false false other) (found.lowest k (omega arith))
      ];
      short = omega (arith, long);
    }

-- one empty zone more
more-empty : (empty : List Bool) (zone : ℕ) → zone < length empty → get_or empty zone false ≡ false → count_by (λ (b : Bool). b) (set empty zone true) ≡ count_by (λ (b : Bool). b) empty + 1
more-empty empty zone lt here =
    let more : count_by (λ (b : Bool). b) (set empty zone true) + 0 ≡ count_by (λ (b : Bool). b) empty + 1 = rw here at (sum_by-set (λ (b : Bool). cond {A = ℕ} b 1 0) empty zone true false lt) in
    omega (arith, more)

-- one zone more can be counted
pub count-fits : (empty : List Bool) (count lowest zone : ℕ) → AreCounted empty count lowest → zone < length empty → get_or empty zone false ≡ false → count + 1 < 2 ^ 32
count-fits empty count lowest zone was lt here =
    omega (arith, was.few, was.count_is, more-empty empty zone lt here, count_by-le-length (λ (b : Bool). b) (set empty zone true), length-set empty zone true)

-- a zone becomes empty, and is counted
pub counted-give : (empty : List Bool) (count lowest zone : ℕ) → AreCounted empty count lowest → zone < length empty → get_or empty zone false ≡ false → AreCounted (set empty zone true) (count + 1) (min lowest zone)
counted-give empty count lowest zone was lt here =
    let long : length (set empty zone true) ≡ length empty = length-set empty zone true in
    record {
      few = omega (arith, was.few, long);
      count_is = omega (arith, was.count_is, more-empty empty zone lt here);
      none_below = λ k h. get_or-set_other empty zone k true false (λ same. omega (arith, same)) ∙ was.none_below k (omega arith);
      short = omega (arith, was.short, long);
    }
