-- The counts of groups of zones where a zone changes, and the lowest implicitly opened zone by them.
use Rattle.std.proofs.Common.{◌≡◌, ◌≢◌, ℕ, zero, suc, ◌+◌, ◌-◌, ◌*◌, ◌/◌, ◌<◌, ◌≤◌, Bool, true, false, ltb, get_or, List, [], ◌∷◌, length, set, take, drop, replicate, Some, None, refl, sym, ap, ◌∙◌, inl, inr, arith}
use Rattle.std.specs.List.{count_by, position, position_or_len}
use Rattle.std.proofs.lemmas.Bool.{cases_lt, le-ltb, lt-ltb, ltb-false, ltb-true}
use Rattle.std.proofs.lemmas.List.{get_or-drop, get_or-set_other, get_or-set_same, length-drop, length-replicate, length-set, take_all}
use Rattle.std.proofs.lemmas.List.Quantifiers.{position-Some}
use Rattle.std.proofs.lemmas.List.Sums.{fails_before_first, position_or_len_is}
use Rattle.drive_port.specs.Step.{one_if}
use Rattle.zone_states.proofs.ListLaws.{get_or-zeros}
use Rattle.zone_drive.specs.Groups.{IsGrouped, passing_below}
use Rattle.zone_drive.proofs.CountLaws.{count-cons}
use Rattle.zone_drive.proofs.RoomLaws.{none_found}

-- ---- how many of the first elements pass a test

count-take_set : {X : Type 0} (p : X → Bool) (xs : List X) (n i : ℕ) (y d : X) → i < n → i < length xs
    → count_by p (take n (set xs i y)) + one_if (p (get_or xs i d)) ≡ count_by p (take n xs) + one_if (p y)
count-take_set p [] n i y d lt low = absurd (omega arith)
count-take_set p (x ∷ xs) zero i y d lt low = absurd (omega arith)
count-take_set p (x ∷ xs) (suc n) zero y d lt low = omega (arith, count-cons p y (take n xs), count-cons p x (take n xs))
count-take_set p (x ∷ xs) (suc n) (suc i) y d lt low =
    omega (arith, count-take_set p xs n i y d (omega arith) (omega arith), count-cons p x (take n (set xs i y)), count-cons p x (take n xs))

take-set_past : {X : Type 0} (xs : List X) (n i : ℕ) (y : X) → n ≤ i → take n (set xs i y) ≡ take n xs
take-set_past [] n i y le = refl
take-set_past (x ∷ xs) zero i y le = refl
take-set_past (x ∷ xs) (suc n) zero y le = absurd (omega arith)
take-set_past {X = X} (x ∷ xs) (suc n) (suc i) y le = ap (λ (rest : List X). x ∷ rest) (take-set_past xs n i y (omega arith))

-- if none is counted, none passes
none-passes : {X : Type 0} (p : X → Bool) (xs : List X) (n k : ℕ) (d : X) → count_by p (take n xs) ≡ 0 → k < n → k < length xs → p (get_or xs k d) ≡ false
none-passes p [] n k d e lt low = absurd (omega arith)
none-passes p (x ∷ xs) zero k d e lt low = absurd (omega arith)
none-passes p (x ∷ xs) (suc n) zero d e lt low = fails (p x) (omega (arith, count-cons p x (take n xs), e))
  where
    fails : (b : Bool) → one_if b ≡ 0 → b ≡ false
    fails true none = absurd (omega arith)
    fails false none = refl
none-passes p (x ∷ xs) (suc n) (suc k) d e lt low = none-passes p xs n k d (omega (arith, count-cons p x (take n xs), e)) (omega arith) (omega arith)

-- ---- one zone changed

-- an element that passes is counted
count-has : {X : Type 0} (p : X → Bool) (xs : List X) (n m i : ℕ) (d : X) → p (get_or xs i d) ≡ true → n ≤ i → i < m → i < length xs
    → count_by p (take n xs) + 1 ≤ count_by p (take m xs)
count-has p [] n m i d passes from to low = absurd (omega arith)
count-has p (x ∷ xs) n zero i d passes from to low = absurd (omega arith)
count-has p (x ∷ xs) zero (suc m) zero d passes from to low = omega (arith, count-cons p x (take m xs), ap one_if passes)
count-has p (x ∷ xs) zero (suc m) (suc i) d passes from to low =
    omega (arith, count-has p xs zero m i d passes (omega arith) (omega arith) (omega arith), count-cons p x (take m xs))
count-has p (x ∷ xs) (suc n) (suc m) zero d passes from to low = absurd (omega arith)
count-has p (x ∷ xs) (suc n) (suc m) (suc i) d passes from to low =
    omega (arith, count-has p xs n m i d passes (omega arith) (omega arith) (omega arith), count-cons p x (take m xs), count-cons p x (take n xs))

-- a zone is counted in its group
pub grouped-counts : {X : Type 0} (p : X → Bool) → (zones : List X) (counts : List ℕ) (index : ℕ) (d : X) → IsGrouped p zones counts → index < length zones
    → one_if (p (get_or zones index d)) ≤ get_or counts (index / 256) 0
grouped-counts p zones counts index d grouped low = either (p (get_or zones index d)) refl
  where
    either : (passes : Bool) → p (get_or zones index d) ≡ passes → one_if passes ≤ get_or counts (index / 256) 0
    either false e = omega arith
    either true e =
        let group = index / 256 in
        omega (arith, grouped.each group (omega (arith, low, grouped.few)), count-has p zones (256 * group) (256 * group + 256) index d e (omega arith) (omega arith) low)

-- one zone is changed, and so is the count of its group
pub grouped-set : {X : Type 0} (p : X → Bool) → (zones : List X) (counts : List ℕ) (index : ℕ) (d new : X) → IsGrouped p zones counts → index < length zones
    → IsGrouped p (set zones index new) (set counts (index / 256) (get_or counts (index / 256) 0 + one_if (p new) - one_if (p (get_or zones index d))))
grouped-set p zones counts index d new grouped low = record {
  few = omega (arith, length-set zones index new, grouped.few);
  groups = length-set counts (index / 256) _ ∙ grouped.groups;
  each = each;
}
  where
    was : ℕ
    was = one_if (p (get_or zones index d))

    count : ℕ
    count = get_or counts (index / 256) 0 + one_if (p new) - was

    held : was ≤ get_or counts (index / 256) 0
    held = grouped-counts p zones counts index d grouped low

    apart : (group : ℕ) → group ≢ index / 256 → get_or (set counts (index / 256) count) group 0 ≡ get_or counts group 0
    apart group away = get_or-set_other counts (index / 256) group count 0 away

    each : (group : ℕ) → group < 256 → passing_below p (set zones index new) (256 * group) + get_or (set counts (index / 256) count) group 0 ≡ passing_below p (set zones index new) (256 * group + 256)
    each group lt =
        elim (cases_lt index (256 * group)) [
          | inl before ↦
              omega (
                arith,
                apart group (λ (e : group ≡ index / 256). absurd (omega arith)),
                grouped.each group lt,
                count-take_set p zones (256 * group) index new d before low,
                count-take_set p zones (256 * group + 256) index new d (omega arith) low,
              )
          | inr from ↦ elim (cases_lt index (256 * group + 256)) [
            | inl inside ↦
                let here : group ≡ index / 256 = omega arith in
                let value : get_or (set counts (index / 256) count) group 0 ≡ count = rw here (get_or-set_same counts (index / 256) count 0 (omega (arith, grouped.groups, lt))) in
                let same = ap (count_by p) (take-set_past zones (256 * group) index new from) in
                let counts_is : get_or counts group 0 ≡ get_or counts (index / 256) 0 = ap (λ (k : ℕ). get_or counts k 0) here in
                omega (arith, value, held, counts_is, same, grouped.each group lt, count-take_set p zones (256 * group + 256) index new d inside low)
            | inr past ↦
                let start = ap (count_by p) (take-set_past zones (256 * group) index new from) in
                let end = ap (count_by p) (take-set_past zones (256 * group + 256) index new past) in
                omega (arith, apart group (λ (e : group ≡ index / 256). absurd (omega arith)), grouped.each group lt, start, end)
          ]
        ]

-- ---- the zones counted one after the other

count-nil : {X : Type 0} (p : X → Bool) (n : ℕ) → count_by p (take n []) ≡ 0
count-nil p zero = refl
count-nil p (suc n) = refl

-- no zones at all
pub grouped-none : {X : Type 0} (p : X → Bool) → IsGrouped p [] (replicate 256 0)
grouped-none p = record {
  few = omega arith;
  groups = length-replicate {A = ℕ} 256 0;
  each = λ group lt. rw (get_or-zeros 256 group, count-nil p (256 * group), count-nil p (256 * group + 256)) refl;
}

-- ---- the lowest implicitly opened zone

-- below a group after groups that count none, none is implicitly opened
zeros-below : {X : Type 0} (p : X → Bool) → (zones : List X) (counts : List ℕ) → IsGrouped p zones counts → (group : ℕ) → group ≤ 256 → ((k : ℕ) → k < group → get_or counts k 0 ≡ 0) → passing_below p zones (256 * group) ≡ 0
zeros-below p zones counts grouped zero le zeros = refl
zeros-below p zones counts grouped (suc group) le zeros =
    let next : 256 * suc group ≡ 256 * group + 256 = omega arith in
    let rest = zeros-below p zones counts grouped group (omega arith) (λ k lt. zeros k (omega arith)) in
    rw next (omega (arith, rest, grouped.each group (omega arith), zeros group (omega arith)))

-- if no zone passes, the search finds none
finds-none : {X : Type 0} (p : X → Bool) → (zones : List X) → ((k : ℕ) (d : X) → k < length zones → p (get_or zones k d) ≡ false) → None ≡ position p zones
finds-none p [] none = refl
finds-none p (zone ∷ zones) none =
    let all = zone ∷ zones in
    let is : position_or_len p all ≡ length all = position_or_len_is p all (length all) zone (omega arith) (λ k lt. none k zone lt) (λ lt. absurd (omega arith)) in
    rw (is, le-ltb (length all) (length all) (omega arith)) refl

-- where all groups count none, there is none
pub lowest-no_group : {X : Type 0} (p : X → Bool) → (zones : List X) (counts : List ℕ) → IsGrouped p zones counts → ((k : ℕ) → k < 256 → get_or counts k 0 ≡ 0) → None ≡ position p zones
lowest-no_group p zones counts grouped zeros =
    let none = zeros-below p zones counts grouped 256 (omega arith) zeros in
    finds-none p zones (λ k d lt. none-passes p zones (256 * 256) k d none (omega (arith, lt, grouped.few)) lt)

-- a group that counts a zone begins within the zones
pub group-within : {X : Type 0} (p : X → Bool) → (zones : List X) (counts : List ℕ) (group : ℕ) → IsGrouped p zones counts → group < 256 → 0 < get_or counts group 0 → 256 * group < length zones
group-within p zones counts group grouped lt some =
    elim (cases_lt (256 * group) (length zones)) [
      | inl within ↦ within
      | inr past ↦
          let start = ap (count_by p) (take_all (256 * group) zones past) in
          let end = ap (count_by p) (take_all (256 * group + 256) zones (omega arith)) in
          absurd (omega (arith, start, end, grouped.each group lt, some))
    ]

drop-nil : {X : Type 0} (n : ℕ) → drop {A = X} n [] ≡ []
drop-nil zero = refl
drop-nil (suc n) = refl

-- the lowest zone is in the first group that counts one
lowest-beside : {X : Type 0} (p : X → Bool) (d : X) (zones : List X) (counts : List ℕ) (group within : ℕ) → IsGrouped p zones counts → group < 256 → ((k : ℕ) → k < group → get_or counts k 0 ≡ 0)
    → Some within ≡ position p (drop (256 * group) zones) → Some (256 * group + within) ≡ position p zones
lowest-beside p d zones counts group within grouped lt zeros e =
    let start = 256 * group in
    let found = position-Some p (drop start zones) within d (sym e) in
    let none = zeros-below p zones counts grouped group (omega arith) zeros in
    let low : start + within < length zones = omega (arith, found.0, length-drop start zones) in
    let before : (k : ℕ) → k < start + within → p (get_or zones k d) ≡ false = λ k less.
    elim (cases_lt k start) [
      | inl below ↦ none-passes p zones start k d none below (omega (arith, low, less))
      | inr from ↦
          let at : start + (k - start) ≡ k = omega arith in
          rw (get_or-drop start zones (k - start) d, at) at (found.2 (k - start) (omega arith))
    ] in
    let is : position_or_len p zones ≡ start + within =
    position_or_len_is p zones (start + within) d (omega arith) before (λ below. rw (get_or-drop start zones within d) at found.1) in
    rw (is, lt-ltb (start + within) (length zones) low) refl

pub lowest-found : {X : Type 0} (p : X → Bool) → (zones : List X) (counts : List ℕ) (group within : ℕ) → IsGrouped p zones counts → group < 256 → ((k : ℕ) → k < group → get_or counts k 0 ≡ 0)
    → Some within ≡ position p (drop (256 * group) zones) → Some (256 * group + within) ≡ position p zones
lowest-found p [] counts group within grouped lt zeros e = absurd (cc (rw (drop-nil (256 * group)) at e))
lowest-found p (zone ∷ zones) counts group within grouped lt zeros e = lowest-beside p zone (zone ∷ zones) counts group within grouped lt zeros e

-- a group that counts one has one
pub lowest-none : {X : Type 0} (p : X → Bool) → (zones : List X) (counts : List ℕ) (group : ℕ) → IsGrouped p zones counts → group < 256 → ((k : ℕ) → k < group → get_or counts k 0 ≡ 0)
    → None ≡ position p (drop (256 * group) zones) → None ≡ position p zones
lowest-none p zones counts group grouped lt zeros e =
    let start = 256 * group in
    let none = zeros-below p zones counts grouped group (omega arith) zeros in
    let past : length (drop start zones) ≤ position_or_len p (drop start zones) = ltb-false _ _ (none_found (ltb (position_or_len p (drop start zones)) (length (drop start zones))) _ e) in
    finds-none p zones (λ k d low.
    elim (cases_lt k start) [
      | inl below ↦ none-passes p zones start k d none below low
      | inr from ↦
          let at : start + (k - start) ≡ k = omega arith in
          rw (get_or-drop start zones (k - start) d, at) at (fails_before_first p (drop start zones) (k - start) d (omega (arith, past, low, length-drop start zones)))
    ])

-- ---- the first group that counts a zone

not_counted : (n : ℕ) → ltb 0 n ≡ false → n ≡ 0
not_counted zero e = refl
not_counted (suc n) e = let le = ltb-false 0 (suc n) e in absurd (omega arith)

-- the first group that counts a zone, after groups that count none
pub record IsFirstGroup (counts : List ℕ) (group : ℕ) : Type 0 where
  pub in_range : group < 256
  pub some : 0 < get_or counts group 0
  pub zeros : (k : ℕ) → k < group → get_or counts k 0 ≡ 0

-- the group that is found is the first that counts one
pub found-group : (counts : List ℕ) (group : ℕ) → length counts ≡ 256 → Some group ≡ position (λ (count : ℕ). ltb 0 count) counts → IsFirstGroup counts group
found-group counts group groups e =
    let found = position-Some (λ (count : ℕ). ltb 0 count) counts group 0 (sym e) in
    record {
      in_range = omega (arith, found.0, groups);
      some = ltb-true 0 _ found.1;
      zeros = λ k lt. not_counted _ (found.2 k lt);
    }

-- if none is found, all count none
pub no-group : (counts : List ℕ) → length counts ≡ 256 → None ≡ position (λ (count : ℕ). ltb 0 count) counts → (k : ℕ) → k < 256 → get_or counts k 0 ≡ 0
no-group counts groups e k lt =
    let past : length counts ≤ position_or_len (λ (count : ℕ). ltb 0 count) counts = ltb-false _ _ (none_found (ltb (position_or_len (λ (count : ℕ). ltb 0 count) counts) (length counts)) _ e) in
    not_counted _ (fails_before_first (λ (count : ℕ). ltb 0 count) counts k 0 (omega (arith, past, groups, lt)))
