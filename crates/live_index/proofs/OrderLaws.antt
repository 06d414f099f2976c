-- Zones in order of their counts: the order made, a zone moved in it, and the least found.
use Rattle.std.proofs.Common.{◌≡◌, ◌≢◌, ℕ, ◌+◌, ◌-◌, ◌<◌, ◌≤◌, Bool, List, length, get_or, set, replicate, refl, sym, ap, subst, ◌∙◌, inl, inr, arith}
use Rattle.std.specs.List.{range_with_len, swap}
use Rattle.std.proofs.lemmas.Bool.{cases_eq, cases_lt}
use Rattle.std.proofs.lemmas.List.{get_or-set_same, get_or-set_other, length-set, length-replicate, get_or-replicate, get_or_default}
use Rattle.std.proofs.lemmas.List.Edits.{Swapped, swapped_from_swap, length-swap}
use Rattle.std.proofs.lemmas.List.FromFn.{length-range_with_len, get_or-range_with_len}
use Rattle.live_index.specs.Least.{IsLeast, IsNamed, NoneNamed}
use Rattle.live_index.specs.Ordered.{AreInverse, IsFirstAbove, IsFirstNamed, IsLowestNamed, IsOrdered, LeadsBack, NoneNamedBefore, count_at}

-- ---- the order made

range-at : (n k d : ℕ) → k < length (range_with_len 0 n) → get_or (range_with_len 0 n) k d ≡ k
range-at n k d h = omega (arith, get_or-range_with_len 0 n k d (omega (arith, length-range_with_len 0 n)))

zero-at : (n k : ℕ) → k < length (range_with_len 0 n) → count_at (replicate n 0) (range_with_len 0 n) k ≡ 0
zero-at n k h = ap (λ z. get_or (replicate n 0) z 0) (range-at n k 0 h) ∙ get_or-replicate n k 0 0 (omega (arith, length-range_with_len 0 n))

-- if no zone has a live record, the zones are in order by their numbers
pub ordered-fresh : (n : ℕ) → IsOrdered (replicate n 0) (range_with_len 0 n)
ordered-fresh n = record {
  as_many = length-range_with_len 0 n ∙ sym (length-replicate {A = ℕ} n 0);
  below = λ k d h. omega (arith, range-at n k d h, length-range_with_len 0 n, length-replicate {A = ℕ} n 0);
  rises = λ j k le h. omega (arith, zero-at n j (omega arith), zero-at n k h);
}

leads_back-fresh : (n : ℕ) → LeadsBack (range_with_len 0 n) (range_with_len 0 n)
leads_back-fresh n = record { below = λ k h. omega (arith, range-at n k 0 h); back = λ k h. ap (λ z. get_or (range_with_len 0 n) z 0) (range-at n k 0 h) ∙ range-at n k 0 h }

-- and each is at its own number
pub inverse-fresh : (n : ℕ) → AreInverse (range_with_len 0 n) (range_with_len 0 n)
inverse-fresh n = record { as_many = refl; from_position = leads_back-fresh n; from_zone = leads_back-fresh n }

-- ---- a bisection

-- on its way: the zones before `low` have at most some count, those from `high` on have more
pub record Halving (counts zones : List ℕ) (count low high : ℕ) : Type 0 where
  pub in_order : low ≤ high
  pub within : high ≤ length zones
  pub at_most : (k : ℕ) → k < low → count_at counts zones k ≤ count
  pub above : (k : ℕ) → high ≤ k → k < length zones → count < count_at counts zones k

-- ---- two zones swapped

module _ (xs ys : List ℕ) (i j : ℕ) (leads : LeadsBack xs ys) (i_in : i < length xs) (j_in : j < length xs) where
  there : Swapped (λ k. get_or xs k 0) (λ k. get_or (swap xs i j) k 0) i j
  there = swapped_from_swap xs (swap xs i j) i j 0 i_in j_in refl

  here : Swapped (λ k. get_or ys k 0) (λ k. get_or (swap ys (get_or xs i 0) (get_or xs j 0)) k 0) (get_or xs i 0) (get_or xs j 0)
  here = swapped_from_swap ys (swap ys (get_or xs i 0) (get_or xs j 0)) (get_or xs i 0) (get_or xs j 0) 0 (leads.below i i_in) (leads.below j j_in) refl

  apart : (k m : ℕ) → k < length xs → m < length xs → k ≢ m → get_or xs k 0 ≢ get_or xs m 0
  apart k m k_in m_in n e = n (sym (leads.back k k_in) ∙ ap (λ z. get_or ys z 0) e ∙ leads.back m m_in)

  below-swap : (k : ℕ) → k < length xs → get_or (swap xs i j) k 0 < length ys
  below-swap k h = elim (cases_eq k i) as (λ _. get_or (swap xs i j) k 0 < length ys) [
    | inl e ↦ rw (e, there.0) (leads.below j j_in)
    | inr ni ↦ elim (cases_eq k j) as (λ _. get_or (swap xs i j) k 0 < length ys) [
      | inl e ↦ rw (e, there.1) (leads.below i i_in)
      | inr nj ↦ rw (there.2 k ni nj) (leads.below k h)
    ]
  ]

  back-swap : (k : ℕ) → k < length xs → get_or (swap ys (get_or xs i 0) (get_or xs j 0)) (get_or (swap xs i j) k 0) 0 ≡ k
  back-swap k h = elim (cases_eq k i) as (λ _. get_or (swap ys (get_or xs i 0) (get_or xs j 0)) (get_or (swap xs i j) k 0) 0 ≡ k) [
    | inl e ↦ rw (e, there.0) (here.1 ∙ leads.back i i_in)
    | inr ni ↦ elim (cases_eq k j) as (λ _. get_or (swap ys (get_or xs i 0) (get_or xs j 0)) (get_or (swap xs i j) k 0) 0 ≡ k) [
      | inl e ↦ rw (e, there.1) (here.0 ∙ leads.back j j_in)
      | inr nj ↦ rw (there.2 k ni nj) (here.2 (get_or xs k 0) (apart k i h i_in ni) (apart k j h j_in nj) ∙ leads.back k h)
    ]
  ]

  -- a list still leads back if two elements and, in the other list, their indexes are swapped
  pub leads_back-swap : LeadsBack (swap xs i j) (swap ys (get_or xs i 0) (get_or xs j 0))
  leads_back-swap = record {
    below = λ k h. let h' : k < length xs = omega (arith, length-swap xs i j) in omega (arith, below-swap k h', length-swap ys (get_or xs i 0) (get_or xs j 0));
    back = λ k h. back-swap k (omega (arith, length-swap xs i j));
  }

-- ---- a zone moved

module _ (counts zones positions : List ℕ) (ordered : IsOrdered counts zones) (inverse : AreInverse zones positions) (zone : ℕ) (zone_in : zone < length counts) where
  -- the position of the zone
  abbrev pub place : ℕ
  place = get_or positions zone 0

  listed : zone < length positions
  listed = omega (arith, inverse.as_many, ordered.as_many)

  place_in : place < length zones
  place_in = inverse.from_zone.below zone listed

  zone_there : get_or zones place 0 ≡ zone
  zone_there = inverse.from_zone.back zone listed

  zone_nowhere_else : (k : ℕ) → k < length zones → k ≢ place → get_or zones k 0 ≢ zone
  zone_nowhere_else k h n e = n (sym (inverse.from_position.back k h) ∙ ap (λ z. get_or positions z 0) e)

  count_there : count_at counts zones place ≡ get_or counts zone 0
  count_there = ap (λ z. get_or counts z 0) zone_there

  module _ (at : ℕ) (at_in : at < length zones) where
    -- the zones, after this one and the zone at another position are swapped
    abbrev pub zones_after : List ℕ
    zones_after = swap zones place at

    -- the positions of the zones after that swap
    abbrev pub positions_after : List ℕ
    positions_after = swap positions zone (get_or zones at 0)

    inverse-put : AreInverse zones_after positions_after
    inverse-put = record {
      as_many = length-swap positions zone (get_or zones at 0) ∙ inverse.as_many ∙ sym (length-swap zones place at);
      from_position = subst (λ z. LeadsBack zones_after (swap positions z (get_or zones at 0))) zone_there (leads_back-swap zones positions place at inverse.from_position place_in at_in);
      from_zone = subst (λ p. LeadsBack positions_after (swap zones place p)) (inverse.from_position.back at at_in) (leads_back-swap positions zones zone (get_or zones at 0) inverse.from_zone listed (inverse.from_position.below at at_in));
    }

    module _ (value : ℕ) (same : count_at counts zones at ≡ get_or counts zone 0) where
      abbrev new_count : ℕ → ℕ
      new_count k = count_at (set counts zone value) zones_after k

      moved : Swapped (λ k. get_or zones k 0) (λ k. get_or zones_after k 0) place at
      moved = swapped_from_swap zones zones_after place at 0 place_in at_in refl

      its_count : new_count at ≡ value
      its_count = ap (λ z. get_or (set counts zone value) z 0) (moved.1 ∙ zone_there) ∙ get_or-set_same counts zone value 0 zone_in

      other_count : (k : ℕ) → k < length zones → k ≢ at → new_count k ≡ count_at counts zones k
      other_count k h n = elim (cases_eq k place) as (λ _. new_count k ≡ count_at counts zones k) [
        | inl e ↦
            ap new_count e ∙ ap (λ z. get_or (set counts zone value) z 0) moved.0 ∙ get_or-set_other counts zone (get_or zones at 0) value 0 (zone_nowhere_else at at_in (λ f. n (e ∙ sym f))) ∙ same ∙ sym count_there ∙ sym (ap (count_at counts zones) e)
        | inr m ↦ ap (λ z. get_or (set counts zone value) z 0) (moved.2 k m n) ∙ get_or-set_other counts zone (get_or zones k 0) value 0 (zone_nowhere_else k h m)
      ]

      module _ (before : (k : ℕ) → k < at → count_at counts zones k ≤ value) (after : (k : ℕ) → at < k → k < length zones → value ≤ count_at counts zones k) where
        new-rises : (j k : ℕ) → j ≤ k → k < length zones → new_count j ≤ new_count k
        new-rises j k le h = elim (cases_eq j at) as (λ _. new_count j ≤ new_count k) [
          | inl e ↦ elim (cases_eq k at) as (λ _. new_count j ≤ new_count k) [
            | inl f ↦ omega (arith, ap new_count e, ap new_count f)
            | inr m ↦ omega (arith, ap new_count e, its_count, other_count k h m, after k (omega arith) h)
          ]
          | inr n ↦ elim (cases_eq k at) as (λ _. new_count j ≤ new_count k) [
            | inl f ↦ omega (arith, ap new_count f, its_count, other_count j (omega arith) n, before j (omega arith))
            | inr m ↦ omega (arith, other_count j (omega arith) n, other_count k h m, ordered.rises j k le h)
          ]
        ]

        new-below : (k d : ℕ) → k < length zones_after → get_or zones_after k d < length (set counts zone value)
        new-below k d h = omega (arith, get_or_default zones_after k d 0 h, inverse-put.from_position.below k h, inverse-put.as_many, length-swap zones place at, ordered.as_many, length-set counts zone value)

        ordered-put : IsOrdered (set counts zone value) zones_after
        ordered-put = record {
          as_many = length-swap zones place at ∙ ordered.as_many ∙ sym (length-set counts zone value);
          below = new-below;
          rises = λ j k le h. new-rises j k le (omega (arith, length-swap zones place at));
        }

  -- ---- one more: at the end of its run

  module _ (end : ℕ) (first : IsFirstAbove counts zones (get_or counts zone 0) end) where
    -- the position of the zone is before the end of its run
    pub below-end : place < end
    below-end = elim (cases_lt place end) as (λ _. place < end) [
      | inl h ↦ h
      | inr past ↦ absurd (omega (arith, first.above place past place_in, count_there))
    ]

    -- the zones stay in order if a zone counts one more and moves to its run's end
    pub put-add : IsOrdered (set counts zone (get_or counts zone 0 + 1)) (swap zones place (end - 1)) × AreInverse (swap zones place (end - 1)) (swap positions zone (get_or zones (end - 1) 0))
    put-add =
        let h = below-end in
        let at_in : end - 1 < length zones = omega (arith, first.within) in
        (ordered-put (end - 1) at_in (get_or counts zone 0 + 1) (omega (arith, first.at_most (end - 1) (omega arith), ordered.rises place (end - 1) (omega arith) at_in, count_there)) (λ k lt. omega (arith, first.at_most k (omega arith))) (λ k gt k_in. omega (arith, first.above k (omega arith) k_in)), inverse-put (end - 1) at_in)

  -- ---- one less: at the start of its run

  module _ (start : ℕ) (positive : 0 < get_or counts zone 0) (first : IsFirstAbove counts zones (get_or counts zone 0 - 1) start) where
    from-start : start ≤ place
    from-start = elim (cases_lt place start) as (λ _. start ≤ place) [
      | inl before ↦ absurd (omega (arith, first.at_most place before, count_there))
      | inr h ↦ h
    ]

    -- the run of the zone starts within the list
    pub start-in : start < length zones
    start-in = omega (arith, from-start, place_in)

    -- the zones stay in order if a zone counts one less and moves to its run's start
    pub put-remove : IsOrdered (set counts zone (get_or counts zone 0 - 1)) (swap zones place start) × AreInverse (swap zones place start) (swap positions zone (get_or zones start 0))
    put-remove = (ordered-put start start-in (get_or counts zone 0 - 1) (omega (arith, first.above start (omega arith) start-in, ordered.rises start place from-start place_in, count_there)) (λ k lt. first.at_most k lt) (λ k gt k_in. omega (arith, first.above k (omega arith) k_in)), inverse-put start start-in)

-- ---- the least found

module _ (counts zones positions : List ℕ) (among : List Bool) (ordered : IsOrdered counts zones) (inverse : AreInverse zones positions) (as_many : length among ≡ length counts) where
  in_positions : (zone : ℕ) → zone < length among → zone < length positions
  in_positions zone h = omega (arith, inverse.as_many, ordered.as_many)

  named-there : (zone : ℕ) → zone < length among → IsNamed among zone → IsNamed among (get_or zones (get_or positions zone 0) 0)
  named-there zone h named = subst (IsNamed among) (sym (inverse.from_zone.back zone (in_positions zone h))) named

  -- if no zone in the order is named, no zone is
  pub none-least : NoneNamedBefore zones among (length zones) → NoneNamed among (length among)
  none-least none zone h named = none (get_or positions zone 0) (inverse.from_zone.below zone (in_positions zone h)) (named-there zone h named)

  module _ (first end lowest : ℕ) (is_first : IsFirstNamed zones among first) (run : IsFirstAbove counts zones (count_at counts zones first) end) (is_lowest : IsLowestNamed zones among first end lowest) where
    -- a named zone is not before the first one
    from-first : (zone : ℕ) → zone < length among → IsNamed among zone → first ≤ get_or positions zone 0
    from-first zone h named = elim (cases_lt (get_or positions zone 0) first) as (λ _. first ≤ get_or positions zone 0) [
      | inl before ↦ absurd (is_first.first (get_or positions zone 0) before (named-there zone h named))
      | inr le ↦ le
    ]

    count-there : (zone : ℕ) → zone < length among → count_at counts zones (get_or positions zone 0) ≡ get_or counts zone 0
    count-there zone h = ap (λ z. get_or counts z 0) (inverse.from_zone.back zone (in_positions zone h))

    least : (zone : ℕ) → zone < length among → IsNamed among zone → get_or counts (get_or zones lowest 0) 0 ≤ get_or counts zone 0
    least zone h named =
        omega (arith, run.at_most lowest is_lowest.before, ordered.rises first (get_or positions zone 0) (from-first zone h named) (inverse.from_zone.below zone (in_positions zone h)), count-there zone h)

    -- one with a lower number is not in the run
    lower : (zone : ℕ) → zone < length among → zone < get_or zones lowest 0 → IsNamed among zone → get_or counts (get_or zones lowest 0) 0 < get_or counts zone 0
    lower zone h lt named = elim (cases_lt (get_or positions zone 0) end) as (λ _. get_or counts (get_or zones lowest 0) 0 < get_or counts zone 0) [
      | inl before ↦ absurd (omega (arith, is_lowest.lowest (get_or positions zone 0) (from-first zone h named) before (named-there zone h named), inverse.from_zone.back zone (in_positions zone h)))
      | inr past ↦ omega (arith, run.at_most lowest is_lowest.before, run.above (get_or positions zone 0) past (inverse.from_zone.below zone (in_positions zone h)), count-there zone h)
    ]

    zone_in : get_or zones lowest 0 < length among
    zone_in = omega (arith, ordered.below lowest 0 (omega (arith, is_lowest.before, run.within)))

    -- in the run of the first named zone, the named zone with the lowest number is least
    pub is-least : IsLeast counts among (length among) (get_or zones lowest 0)
    is-least = record { below = zone_in; is_named = is_lowest.is_named; least = least; lowest = λ zone lt named. lower zone (omega (arith, zone_in)) lt named }
