-- Which zones say the size of the disk, and what is left without one of them.
use Rattle.std.proofs.Common.{◌≡◌, ◌≢◌, ◌⊎◌, inl, inr, ℕ, zero, suc, ◌+◌, ◌-◌, ◌<◌, ◌≤◌, max, Bool, true, false, cond, eqb, List, [], ◌∷◌, length, get_or, Option, Some, None, refl, sym, ap, subst, ◌∙◌, arith}
use Rattle.std.specs.Prelude.{IsTrue, is_some, slice_get}
use Rattle.std.specs.BTreeSet.{BTreeSet, contains}
use Rattle.std.specs.List.{count_by}
use Rattle.std.specs.Ordering.{nat_cmp}
use Rattle.std.proofs.lemmas.Bool.{cases_eq, cases_lt, eq-eqb, eqb-true, ne_eqb}
use Rattle.std.proofs.lemmas.List.{get_or-set_other, get_or_past, length-map, set_comm}
use Rattle.std.proofs.lemmas.List.Sums.{sum_by-cons}
use Rattle.drive_port.specs.Drive.{DriveState}
use Rattle.batch_log.specs.Log.{Batch}
use Rattle.drive_array.specs.Records.{without}
use Rattle.drive_array.specs.Sizes.{encoded_size, larger, size_or}
use Rattle.drive_array.proofs.SizeLaws.{larger-assoc, larger-comm}
use Rattle.drive_survey.specs.declared.scan.ScannedZone.{ScannedZone}
use Rattle.drive_survey.specs.declared.clearing.sizes.SizeCounts.{SizeCounts}
use Rattle.drive_survey.specs.declared.survey.Survey.{Survey}
use Rattle.drive_survey.specs.Clearing.{Tells, without_heads}
use Rattle.drive_survey.specs.Heads.{HeadsView, no_heads}
use Rattle.drive_survey.specs.Known.{Knows}
use Rattle.drive_survey.specs.Scan.{heads_in}
use Rattle.drive_survey.specs.SizeCounts.{IsSized, says_this_size, says_size, says_some, size_counts}
use Rattle.drive_survey.specs.Survey.{greatest_in}
use Rattle.drive_survey.specs.Waiting.{LastWaits}
use Rattle.drive_survey.proofs.MovedLaws.{size-forgotten, there}
use Rattle.drive_survey.proofs.SurveyLaws.{greatest-heads}

-- the headers of a zone
abbrev pub view_at : List HeadsView → ℕ → HeadsView
view_at views zone = get_or views zone no_heads

-- ---- counts

abbrev one_if : Bool → ℕ
one_if b = cond {A = ℕ} b 1 0

count-cons : {X : Type 0} (p : X → Bool) (x : X) (xs : List X) → count_by p (x ∷ xs) ≡ one_if (p x) + count_by p xs
count-cons p x xs = sum_by-cons (λ z. cond {A = ℕ} (p z) 1 0) x xs

-- a zone has its share of a count
count-forgotten : (p : HeadsView → Bool) (views : List HeadsView) (zone : ℕ) → p no_heads ≡ false → count_by p views ≡ one_if (p (view_at views zone)) + count_by p (without_heads views zone)
count-forgotten p [] zone none = rw none refl
count-forgotten p (v ∷ vs) zero none =
    let share : one_if (p no_heads) ≡ 0 = ap one_if none in
    omega (arith, share, count-cons p v vs, count-cons p no_heads vs)
count-forgotten p (v ∷ vs) (suc zone) none = omega (arith, count-forgotten p vs zone none, count-cons p v vs, count-cons p v (without_heads vs zone))

-- a count is the count without a zone, and one more if the zone passes the test
count-share : (p : HeadsView → Bool) (views : List HeadsView) (zone : ℕ) (b : Bool) → p no_heads ≡ false → p (view_at views zone) ≡ b → count_by p views ≡ one_if b + count_by p (without_heads views zone)
count-share p views zone b none is = count-forgotten p views zone none ∙ ap (λ (t : Bool). one_if t + count_by p (without_heads views zone)) is

count-none : (p : HeadsView → Bool) (views : List HeadsView) (zone : ℕ) → p no_heads ≡ false → p (view_at views zone) ≡ false → count_by p views ≡ count_by p (without_heads views zone)
count-none p views zone none is = omega (arith, count-share p views zone false none is)

-- ---- the greatest size

-- the greatest size is the greater of a zone's own and the greatest of the others
greatest-forgotten : (views : List HeadsView) (zone : ℕ) → greatest_in views ≡ larger (view_at views zone).size (greatest_in (without_heads views zone))
greatest-forgotten [] zone = refl
greatest-forgotten (v ∷ vs) zero = refl
greatest-forgotten (v ∷ vs) (suc zone) =
    let own = (view_at vs zone).size in
    let rest = greatest_in (without_heads vs zone) in
    ap (larger v.size) (greatest-forgotten vs zone) ∙ larger-assoc v.size own rest ∙ ap (λ (x : Option ℕ). larger x rest) (larger-comm v.size own) ∙ sym (larger-assoc own v.size rest)

-- it is said
some-said : (views : List HeadsView) (k : ℕ) → greatest_in views ≡ Some k → 1 ≤ count_by says_some views
some-said [] k e = absurd (cc)
some-said (v ∷ vs) k e = by (some-said vs k) v.size refl e
  where
    by : (greatest_in vs ≡ Some k → 1 ≤ count_by says_some vs) → (x : Option ℕ) → v.size ≡ x → larger x (greatest_in vs) ≡ Some k → 1 ≤ count_by says_some (v ∷ vs)
    by more None is same = let rest = more same in omega (arith, rest, count-cons says_some v vs)
    by more (Some a) is same = let here : one_if (says_some v) ≡ 1 = ap (λ (s : Option ℕ). one_if (is_some s)) is in omega (arith, here, count-cons says_some v vs)

greatest-said : (views : List HeadsView) (k : ℕ) → greatest_in views ≡ Some k → 1 ≤ count_by (says_size k) views
greatest-said [] k e = absurd (cc)
greatest-said (v ∷ vs) k e = by (greatest-said vs k) v.size refl (greatest_in vs) refl e
  where
    here : (a : ℕ) → v.size ≡ Some a → a ≡ k → 1 ≤ count_by (says_size k) (v ∷ vs)
    here a is same = let one : one_if (says_size k v) ≡ 1 = ap (λ (s : Option ℕ). one_if (says_this_size k s)) is ∙ ap one_if (eq-eqb a k same) in omega (arith, one, count-cons (says_size k) v vs)

    there : 1 ≤ count_by (says_size k) vs → 1 ≤ count_by (says_size k) (v ∷ vs)
    there rest = omega (arith, rest, count-cons (says_size k) v vs)

    by : (greatest_in vs ≡ Some k → 1 ≤ count_by (says_size k) vs) → (x : Option ℕ) → v.size ≡ x → (y : Option ℕ) → greatest_in vs ≡ y → larger x y ≡ Some k → 1 ≤ count_by (says_size k) (v ∷ vs)
    by more None is y g same = there (more (g ∙ same))
    by more (Some a) is None g same = here a is (cc)
    by more (Some a) is (Some b) g same =
        let top : max a b ≡ k = cc in
        elim (cases_eq a k) as (λ _. 1 ≤ count_by (says_size k) (v ∷ vs)) [
          | inl first ↦ here a is first
          | inr other ↦ there (more (g ∙ ap (λ (n : ℕ). Some n) (omega (arith, top, other))))
        ]

-- if none is said, no zone says one
none-said : (views : List HeadsView) (k : ℕ) → greatest_in views ≡ None → (count_by says_some views ≡ 0) × (count_by (says_size k) views ≡ 0)
none-said [] k e = (refl, refl)
none-said (v ∷ vs) k e = by (none-said vs k) v.size refl (greatest_in vs) refl e
  where
    by : (greatest_in vs ≡ None → (count_by says_some vs ≡ 0) × (count_by (says_size k) vs ≡ 0)) → (x : Option ℕ) → v.size ≡ x → (y : Option ℕ) → greatest_in vs ≡ y → larger x y ≡ None → (count_by says_some (v ∷ vs) ≡ 0) × (count_by (says_size k) (v ∷ vs) ≡ 0)
    by more None is y g same =
        let rest = more (g ∙ same) in
        let any : one_if (says_some v) ≡ 0 = ap (λ (s : Option ℕ). one_if (is_some s)) is in
        let own : one_if (says_size k v) ≡ 0 = ap (λ (s : Option ℕ). one_if (says_this_size k s)) is in
        (omega (arith, any, rest.0, count-cons says_some v vs), omega (arith, own, rest.1, count-cons (says_size k) v vs))
    by more (Some a) is None g same = absurd (cc)
    by more (Some a) is (Some b) g same = absurd (cc)

-- no zone says a greater one
said-below : (views : List HeadsView) (size k : ℕ) → greatest_in views ≡ Some k → 1 ≤ count_by (says_size size) views → size ≤ k
said-below [] size k e some = absurd (cc)
said-below (v ∷ vs) size k e some = by (said-below vs size) v.size refl (greatest_in vs) refl e
  where
    rest : (x : Option ℕ) → v.size ≡ x → says_this_size size x ≡ false → 1 ≤ count_by (says_size size) vs
    rest x is other = let own : one_if (says_size size v) ≡ 0 = ap (λ (s : Option ℕ). one_if (says_this_size size s)) is ∙ ap one_if other in omega (arith, own, some, count-cons (says_size size) v vs)

    alone : (a : ℕ) (t : Bool) → v.size ≡ Some a → greatest_in vs ≡ None → a ≡ k → eqb a size ≡ t → size ≤ k
    alone a true is g top one = omega (arith, top, eqb-true a size one)
    alone a false is g top other = let bad = rest (Some a) is other in absurd (omega (arith, bad, (none-said vs size g).1))

    beside : (more : 1 ≤ count_by (says_size size) vs → (b : ℕ) → greatest_in vs ≡ Some b → size ≤ b) (a b : ℕ) (t : Bool) → v.size ≡ Some a → greatest_in vs ≡ Some b → max a b ≡ k → eqb a size ≡ t → size ≤ k
    beside more a b true is g top one = omega (arith, top, eqb-true a size one)
    beside more a b false is g top other = let less = more (rest (Some a) is other) b g in omega (arith, top, less)

    by : ((b : ℕ) → greatest_in vs ≡ Some b → 1 ≤ count_by (says_size size) vs → size ≤ b) → (x : Option ℕ) → v.size ≡ x → (y : Option ℕ) → greatest_in vs ≡ y → larger x y ≡ Some k → size ≤ k
    by more None is y g same = more k (g ∙ same) (rest None is refl)
    by more (Some a) is None g same = alone a (eqb a size) is g (cc) refl
    by more (Some a) is (Some b) g same = beside (λ one c there. more c there one) a b (eqb a size) is g (cc) refl

-- ---- the size without a zone

-- another zone says the greatest one
size-said : (n size : ℕ) (views : List HeadsView) (zone : ℕ) → size ≡ size_or n (greatest_in views) → count_by (says_size size) (without_heads views zone) ≢ 0 → size_or n (greatest_in (without_heads views zone)) ≡ size
size-said n size views zone is some = by (greatest_in (without_heads views zone)) refl
  where
    least : (x : Option ℕ) (k : ℕ) → k ≤ size_or n (larger x (Some k))
    least None k = omega arith
    least (Some a) k = omega arith

    by : (x : Option ℕ) → greatest_in (without_heads views zone) ≡ x → size_or n x ≡ size
    by None g = absurd (some (none-said (without_heads views zone) size g).1)
    by (Some k) g =
        let below = said-below (without_heads views zone) size k g (omega (arith, some)) in
        let all : size ≡ size_or n (larger (view_at views zone).size (Some k)) = is ∙ ap (size_or n) (greatest-forgotten views zone ∙ ap (larger (view_at views zone).size) g) in
        omega (arith, below, all, least (view_at views zone).size k)

-- others say less
size-other : (n size : ℕ) (views : List HeadsView) → count_by (says_size size) views ≡ 0 → count_by says_some views ≢ 0 → size_or n (greatest_in views) ≡ size → ⊥
size-other n size views none some = by (greatest_in views) refl
  where
    by : (x : Option ℕ) → greatest_in views ≡ x → size_or n x ≡ size → ⊥
    by None g same = some (none-said views size g).0
    by (Some k) g same =
        let said = greatest-said views k g in
        let same' : k ≡ size = same in
        let said' = rw same' at said in
        omega (arith, said', none)

-- no other says one
size-none : (n : ℕ) (views : List HeadsView) → count_by says_some views ≡ 0 → size_or n (greatest_in views) ≡ n
size-none n views none = by (greatest_in views) refl
  where
    by : (x : Option ℕ) → greatest_in views ≡ x → size_or n x ≡ n
    by None g = refl
    by (Some k) g = let bad = some-said views k g in absurd (omega (arith, bad, none))

-- ---- zones that say a size

sized-read : (views : List HeadsView) (zone : ℕ) (heads : HeadsView) → slice_get views zone ≡ Some heads → view_at views zone ≡ heads
sized-read [] zone heads is = absurd (cc)
sized-read (v ∷ vs) zero heads is = cc
sized-read (v ∷ vs) (suc zone) heads is = sized-read vs zone heads is

sized-at : (views : List HeadsView) (zone : ℕ) → says_some (view_at views zone) ≡ true → IsSized views zone
sized-at [] zone is = absurd (cc)
sized-at (v ∷ vs) zero is = (v, refl, is)
sized-at (v ∷ vs) (suc zone) is = sized-at vs zone is

at-sized : (views : List HeadsView) (zone : ℕ) → IsSized views zone → says_some (view_at views zone) ≡ true
at-sized views zone sized = ap says_some (sized-read views zone sized.0 sized.1) ∙ sized.2

-- ---- a zone that the size needs, once another one is forgotten

-- What the size needs is needed still, unless it waits. It was the only one that says the size of the disk.
pub size-needs : (n size gone zone : ℕ) (views : List HeadsView) (waiting : BTreeSet ℕ) → zone ≢ gone → size ≡ size_or n (greatest_in (without_heads views gone)) → size ≡ size_or n (greatest_in views) → (size_or n (greatest_in (without_heads views zone)) ≡ size → ⊥)
    → (count_by says_some (without_heads views gone) ≡ 1 → count_by says_some views ≢ 1 → LastWaits (without_heads views gone) waiting)
    → IsTrue (contains nat_cmp waiting zone) ⊎ (size_or n (greatest_in (without_heads (without_heads views gone) zone)) ≡ size → ⊥)
size-needs n size gone zone views waiting apart now before needed last = by (view_at views zone).size refl
  where
    left : List HeadsView
    left = without_heads views gone

    both : List HeadsView
    both = without_heads left zone

    Goal : Type 0
    Goal = IsTrue (contains nat_cmp waiting zone) ⊎ (size_or n (greatest_in both) ≡ size → ⊥)

    turned : both ≡ without_heads (without_heads views zone) gone
    turned = set_comm views gone zone no_heads no_heads (λ e. apart (sym e))

    own : view_at left zone ≡ view_at views zone
    own = get_or-set_other views gone zone no_heads no_heads apart

    other : view_at (without_heads views zone) gone ≡ view_at views gone
    other = get_or-set_other views zone gone no_heads no_heads (λ e. apart (sym e))

    -- no other zone says the size
    alone : count_by (says_size size) both ≡ 0
    alone =
        let share = count-forgotten (says_size size) (without_heads views zone) gone refl in
        let none : count_by (says_size size) (without_heads views zone) ≡ 0 = elim (cases_eq (count_by (says_size size) (without_heads views zone)) 0) as (λ _. count_by (says_size size) (without_heads views zone) ≡ 0) [
          | inl is ↦ is
          | inr some ↦ absurd (needed (size-said n size views zone before some))
        ] in
        let same : count_by (says_size size) both ≡ count_by (says_size size) (without_heads (without_heads views zone) gone) = ap (count_by (says_size size)) turned in
        omega (arith, share, none, same)

    fewer : (x : Option ℕ) → (view_at (without_heads views zone) gone).size ≡ x → is_some x ≡ false → greatest_in (without_heads views zone) ≡ greatest_in both
    fewer None is none = greatest-forgotten (without_heads views zone) gone ∙ ap (λ (s : Option ℕ). larger s (greatest_in (without_heads (without_heads views zone) gone))) is ∙ ap greatest_in (sym turned)
    fewer (Some b) is none = absurd (cc)

    -- the zone that is gone said none
    silent : says_some (view_at views gone) ≡ false → Goal
    silent none = inr (λ same. needed (ap (size_or n) (fewer (view_at (without_heads views zone) gone).size refl (ap says_some other ∙ none)) ∙ same))

    off : (b : Bool) → one_if b ≡ 0 → b ≡ false
    off true e = absurd (omega (arith, e))
    off false e = refl

    found : says_some (view_at left zone) ≡ true → count_by says_some both ≡ 0 → LastWaits left waiting → Goal
    found says none (inl never) = absurd (never zone (sized-at left zone says))
    found says none (inr one) = elim (cases_eq one.0 zone) as (λ _. Goal) [
      | inl same ↦ inl (subst (λ (z : ℕ). IsTrue (contains nat_cmp waiting z)) same one.2)
      | inr else ↦ (
          let there : says_some (view_at both one.0) ≡ true = ap says_some (get_or-set_other left zone one.0 no_heads no_heads else) ∙ at-sized left one.0 one.1 in
          let share = count-share says_some both one.0 true refl there in
          absurd (omega (arith, share, none))
          )
    ]

    -- it is the only one that is left
    only : says_some (view_at left zone) ≡ true → count_by says_some both ≡ 0 → count_by says_some left ≡ 1 → Goal
    only says none one = elim (cases_eq (count_by says_some views) 1) as (λ _. Goal) [
      | inl same ↦ (let share = count-forgotten says_some views gone refl in silent (off (says_some (view_at views gone)) (omega (arith, share, one, same))))
      | inr grown ↦ found says none (last one grown)
    ]

    by : (x : Option ℕ) → (view_at views zone).size ≡ x → Goal
    by None is = absurd (needed (ap (size_or n) (sym (greatest-forgotten views zone ∙ ap (λ (s : Option ℕ). larger s (greatest_in (without_heads views zone))) is)) ∙ sym before))
    by (Some a) is =
        let says : says_some (view_at left zone) ≡ true = ap says_some own ∙ ap (λ (s : Option ℕ). is_some s) is in
        let share = count-share says_some left zone true refl says in
        elim (cases_eq (count_by says_some left) 1) as (λ _. Goal) [
          | inl one ↦ only says (omega (arith, share, one)) one
          | inr more ↦ inr (size-other n size both alone (λ none. more (omega (arith, share, none))))
        ]

-- ---- of the zones that were scanned

view-found : (scanned : List ScannedZone) (zone : ℕ) (found : ScannedZone) → slice_get scanned zone ≡ Some found → view_at (heads_in scanned) zone ≡ found.heads
view-found [] zone found is = absurd (cc)
view-found (s ∷ ss) zero found is = let same : s ≡ found = cc in ap (λ (z : ScannedZone). z.heads) same
view-found (s ∷ ss) (suc zone) found is = view-found ss zone found is

-- the lowest that says a size
pub sized-more : (scanned : List ScannedZone) (limit : ℕ) (found : ScannedZone) → limit < length scanned → found ≡ get_or scanned limit found → is_some found.heads.size ≡ false → ((zone : ℕ) → zone < limit → IsSized (heads_in scanned) zone → ⊥)
    → (zone : ℕ) → zone < limit + 1 → IsSized (heads_in scanned) zone → ⊥
sized-more scanned limit found lt is silent none zone less sized = elim (cases_eq zone limit) as (λ _. ⊥) [
  | inl here ↦ (
      let says = at-sized (heads_in scanned) limit (rw here at sized) in
      let bad : false ≡ true = sym silent ∙ ap (λ (h : HeadsView). is_some h.size) (sym (view-found scanned limit found (there scanned limit found lt is))) ∙ says in
      absurd (cc)
      )
  | inr apart ↦ none zone (omega (arith, less, apart)) sized
]

-- if no scanned zone says a size, no zone does
pub sized-none : (scanned : List ScannedZone) (limit : ℕ) → length scanned ≤ limit → ((zone : ℕ) → zone < limit → IsSized (heads_in scanned) zone → ⊥) → (zone : ℕ) → IsSized (heads_in scanned) zone → ⊥
sized-none scanned limit le none zone sized = elim (cases_lt zone limit) as (λ _. ⊥) [
  | inl lt ↦ none zone lt sized
  | inr ge ↦ (
      let past : view_at (heads_in scanned) zone ≡ no_heads = get_or_past (heads_in scanned) zone no_heads (omega (arith, le, ge, length-map scanned (λ (z : ScannedZone). z.heads))) in
      let bad : false ≡ true = ap says_some (sym past) ∙ at-sized (heads_in scanned) zone sized in
      absurd (cc)
      )
]

-- the counts without a zone
same-counts : (a b c d : ℕ) → a ≡ c → b ≡ d → ◌≡◌ {A = SizeCounts} (record { any = a; greatest = b }) (record { any = c; greatest = d })
same-counts a b c d any greatest = ap (λ (n : ℕ). record { any = n; greatest = b }) any ∙ ap (λ (n : ℕ). record { any = c; greatest = n }) greatest

-- forgetting a zone that says no size changes no count
pub counts-silent : (size zone : ℕ) (scanned : List ScannedZone) (found : ScannedZone) (said : Option ℕ) (counts : SizeCounts) → slice_get scanned zone ≡ Some found → said ≡ found.heads.size → said ≡ None
    → counts ≡ size_counts size (heads_in scanned) → counts ≡ size_counts size (without_heads (heads_in scanned) zone)
counts-silent size zone scanned found said counts there_is says none are =
    let views = heads_in scanned in
    let own : (view_at views zone).size ≡ None = ap (λ (h : HeadsView). h.size) (view-found scanned zone found there_is) ∙ sym says ∙ none in
    are ∙ same-counts (count_by says_some views) (count_by (says_size size) views) (count_by says_some (without_heads views zone)) (count_by (says_size size) (without_heads views zone))
    (count-none says_some views zone refl (ap (λ (s : Option ℕ). is_some s) own)) (count-none (says_size size) views zone refl (ap (says_this_size size) own))

-- forgetting a zone that says another size takes one from the zones that say any
pub counts-other : (size zone k less : ℕ) (scanned : List ScannedZone) (found : ScannedZone) (said : Option ℕ) (counts : SizeCounts) → slice_get scanned zone ≡ Some found → said ≡ found.heads.size → said ≡ Some k → k ≢ size → less ≡ counts.any - 1
    → counts ≡ size_counts size (heads_in scanned) → ◌≡◌ {A = SizeCounts} (record { any = less; greatest = counts.greatest }) (size_counts size (without_heads (heads_in scanned) zone))
counts-other size zone k less scanned found said counts there_is says some differs fewer are =
    let views = heads_in scanned in
    let own : (view_at views zone).size ≡ Some k = ap (λ (h : HeadsView). h.size) (view-found scanned zone found there_is) ∙ sym says ∙ some in
    let any = count-share says_some views zone true refl (ap (λ (s : Option ℕ). is_some s) own) in
    let greatest = count-none (says_size size) views zone refl (ap (says_this_size size) own ∙ ne_eqb k size differs) in
    let before : counts.any ≡ count_by says_some views = ap (λ (c : SizeCounts). c.any) are in
    same-counts less counts.greatest (count_by says_some (without_heads views zone)) (count_by (says_size size) (without_heads views zone))
    (omega (arith, fewer, before, any)) (ap (λ (c : SizeCounts). c.greatest) are ∙ greatest)

-- forgetting a zone that says the disk's size takes one from both counts
pub counts-own : (size zone k less fewest : ℕ) (scanned : List ScannedZone) (found : ScannedZone) (said : Option ℕ) (counts : SizeCounts) → slice_get scanned zone ≡ Some found → said ≡ found.heads.size → said ≡ Some k → k ≡ size → less ≡ counts.any - 1 → fewest ≡ counts.greatest - 1
    → counts ≡ size_counts size (heads_in scanned) → ◌≡◌ {A = SizeCounts} (record { any = less; greatest = fewest }) (size_counts size (without_heads (heads_in scanned) zone))
counts-own size zone k less fewest scanned found said counts there_is says some same fewer fewer' are =
    let views = heads_in scanned in
    let own : (view_at views zone).size ≡ Some k = ap (λ (h : HeadsView). h.size) (view-found scanned zone found there_is) ∙ sym says ∙ some in
    let any = count-share says_some views zone true refl (ap (λ (s : Option ℕ). is_some s) own) in
    let greatest = count-share (says_size size) views zone true refl (ap (says_this_size size) own ∙ eq-eqb k size same) in
    let before : counts.any ≡ count_by says_some views = ap (λ (c : SizeCounts). c.any) are in
    let before' : counts.greatest ≡ count_by (says_size size) views = ap (λ (c : SizeCounts). c.greatest) are in
    same-counts less fewest (count_by says_some (without_heads views zone)) (count_by (says_size size) (without_heads views zone))
    (omega (arith, fewer, before, any)) (omega (arith, fewer', before', greatest))

-- what they tell of the size
abbrev pub CountsOf : Survey → ℕ → SizeCounts → SizeCounts → Type 0
CountsOf survey zone all left = all ≡ size_counts survey.size (heads_in survey.scanned.items) → left ≡ size_counts survey.size (without_heads (heads_in survey.scanned.items) zone)

known-size : (drive : DriveState) (n : ℕ) (logs : List (List Batch)) (survey : Survey) → Knows drive n logs survey → survey.size ≡ size_or n (greatest_in (heads_in survey.scanned.items))
known-size drive n logs survey known = known.size_is ∙ sym (ap (size_or n) (ap greatest_in known.heads ∙ greatest-heads logs))

-- if another zone says the disk's size, the size is the same without the zone
pub keeps-said : (n zone : ℕ) (survey : Survey) (all left : SizeCounts) → CountsOf survey zone all left → left.greatest ≢ 0
    → (drive : DriveState) (logs : List (List Batch)) → Knows drive n logs survey → all ≡ size_counts survey.size (heads_in survey.scanned.items) → encoded_size n (without logs zone) ≡ encoded_size n logs
keeps-said n zone survey all left counts some drive logs known are =
    let views = heads_in survey.scanned.items in
    sym (size-forgotten n logs views zone known.heads)
    ∙ size-said n survey.size views zone (known-size drive n logs survey known) (λ none. some (ap (λ (c : SizeCounts). c.greatest) (counts are) ∙ none)) ∙ known.size_is

-- if the other zones say only smaller sizes, the size changes without the zone
pub keeps-other : (n zone : ℕ) (survey : Survey) (all left : SizeCounts) → CountsOf survey zone all left → left.greatest ≡ 0 → left.any ≢ 0
    → (drive : DriveState) (logs : List (List Batch)) → Knows drive n logs survey → all ≡ size_counts survey.size (heads_in survey.scanned.items) → encoded_size n (without logs zone) ≡ encoded_size n logs → ⊥
keeps-other n zone survey all left counts none some drive logs known are same =
    let views = heads_in survey.scanned.items in
    size-other n survey.size (without_heads views zone) (ap (λ (c : SizeCounts). c.greatest) (sym (counts are)) ∙ none) (λ silent. some (ap (λ (c : SizeCounts). c.any) (counts are) ∙ silent))
    (size-forgotten n logs views zone known.heads ∙ same ∙ sym known.size_is)

-- if no other zone says a size, the size stays exactly if it is the given one
pub keeps-none : (n zone : ℕ) (survey : Survey) (all left : SizeCounts) → CountsOf survey zone all left → left.any ≡ 0
    → (drive : DriveState) (logs : List (List Batch)) → Knows drive n logs survey → all ≡ size_counts survey.size (heads_in survey.scanned.items) → Tells (eqb n survey.size) (encoded_size n (without logs zone) ≡ encoded_size n logs)
keeps-none n zone survey all left counts none drive logs known are = by (eqb n survey.size) refl
  where
    views : List HeadsView
    views = heads_in survey.scanned.items

    left_is : encoded_size n (without logs zone) ≡ n
    left_is = sym (size-forgotten n logs views zone known.heads) ∙ size-none n (without_heads views zone) (ap (λ (c : SizeCounts). c.any) (sym (counts are)) ∙ none)

    by : (b : Bool) → eqb n survey.size ≡ b → Tells b (encoded_size n (without logs zone) ≡ encoded_size n logs)
    by true e = left_is ∙ eqb-true n survey.size e ∙ known.size_is
    by false e = λ same. let bad : true ≡ false = sym (eq-eqb n survey.size (sym left_is ∙ same ∙ sym known.size_is)) ∙ e in absurd (cc)
