-- The least drive that holds a number of bytes.
use Rattle.std.proofs.Common.{◌≡◌, inl, inr, ℕ, ◌+◌, ◌-◌, ◌*◌, ◌/◌, ◌<◌, ◌≤◌, ◌^◌, max, min, List, [], ◌∷◌, length, get_or, zero, suc, arith, rules, refl, sym, ap, subst, ◌∙◌}
use Rattle.std.specs.List.{AllByRecursion}
use Rattle.std.proofs.Math.Nat.{mul-le-mul_left, mul-le-mul_right}
use Rattle.std.proofs.lemmas.Bool.{cases_lt, cases_order}
use Rattle.std.proofs.lemmas.Grind.{div_ceil_times, get_or_default_zero}
use Rattle.std.specs.Int.{div_ceil}
use Rattle.zone_states.specs.declared.geometry.Geometry.{Geometry}
use Rattle.zone_states.specs.Geometry.{IsInRange}
use Rattle.drive_array.specs.Reserve.{quota_of}
use Rattle.write_plan.specs.Drives.{HoldsBytes, IsDriveFor, IsFewest, IsNoLarger, IsPlanned, largest_zone, planned_drive, zone_sizes}
use Rattle.write_plan.specs.Rows.{share_of}

-- 80 percent of what so many zones serve are as many, if 5 parts of the blocks are no more than 4 of the zones' quotas
below-share : (b most : ℕ) → b ≤ 2 ^ 30 → 5 * b ≤ 4 * most → b ≤ max (min most (2 ^ 31) * 80 / 100) 1
below-share b most few le = omega arith

-- and only then, if the zones are 8 at least
share-below : (b most : ℕ) → 7 ≤ most → b ≤ max (min most (2 ^ 31) * 80 / 100) 1 → 5 * b ≤ 4 * most
share-below b most some le = omega arith

enough : (b q d z : ℕ) → 5 * b ≤ d * (4 * q) → d + 1 ≤ z → 5 * b ≤ 4 * (q * (z - 1))
enough b q d z le more =
    let less : d ≤ z - 1 = omega arith in
    omega (arith, mul-le-mul_left q less)

fewer : (b q d o : ℕ) → d * (4 * q) < 5 * b + 4 * q → 1 ≤ o → 5 * b ≤ 4 * (q * (o - 1)) → d < o
fewer b q d o under one le = grind arith

-- so many zones are the fewest
pub is-fewest : (b c two zones : ℕ) → b ≤ 2 ^ 30 → 1 ≤ quota_of (planned_drive 3 c) → 2 * two ≡ 4 * quota_of (planned_drive 3 c) → zones ≡ max (div_ceil (5 * b) (2 * two) + 1) 8 → IsFewest b c zones
is-fewest b c two zones few some is zones_is =
    let q = quota_of (planned_drive 3 c) in
    let d = div_ceil (5 * b) (4 * q) in
    let times : (5 * b ≤ d * (4 * q)) × (d * (4 * q) < 5 * b + 4 * q) = div_ceil_times (5 * b) (4 * q) (omega (arith, some)) in
    let zones_are : zones ≡ max (d + 1) 8 = rw is at zones_is in
    record {
      least = omega arith;
      holds = below-share b (q * (zones - 1)) few (enough b q d zones times.0 (omega arith));
      fewest = λ others eight le.
          let seven : 7 ≤ others - 1 = omega arith in
          let most : 7 ≤ q * (others - 1) = omega (arith, mul-le-mul_right (others - 1) some, seven) in
          let under : d < others = fewer b q d others times.1 (omega arith) (share-below b (q * (others - 1)) most le) in
          omega arith;
    }

-- a zone of four blocks has a quota
pub has-quota : (c : ℕ) → 4 ≤ c → 1 ≤ quota_of (planned_drive 3 c)
has-quota c four = omega arith

-- which is less than the zone
pub below-zone : (c : ℕ) → 4 ≤ c → quota_of (planned_drive 3 c) ≤ c
below-zone c four = omega arith

-- ---- bytes

-- a drive holds bytes if it holds the blocks that they take
pub holds-bytes : (bytes share : ℕ) → div_ceil bytes 4096 ≤ share → bytes ≤ share * 4096
holds-bytes bytes share le = omega arith

pub holds-blocks : (bytes share : ℕ) → bytes ≤ share * 4096 → div_ceil bytes 4096 ≤ share
holds-blocks bytes share le = omega arith

-- ---- the sizes of zones

-- each number of a list is below those that follow it
IsAscending : List ℕ → Type 0
IsAscending [] = Unit {0}
IsAscending (x ∷ xs) = AllByRecursion (λ y. x < y) xs × IsAscending xs

each : (x : ℕ) (xs : List ℕ) (k : ℕ) → AllByRecursion (λ y. x < y) xs → k < length xs → x < get_or xs k 0
each x [] k all lt = absurd (omega arith)
each x (y ∷ ys) zero all lt = all.0
each x (y ∷ ys) (suc k) all lt = each x ys k all.1 (omega arith)

ascends : (xs : List ℕ) (j k : ℕ) → IsAscending xs → j < k → k < length xs → get_or xs j 0 < get_or xs k 0
unfolding IsAscending
ascends [] j k up less lt = absurd (omega arith)
ascends (x ∷ xs) j zero up less lt = absurd (omega arith)
ascends (x ∷ xs) zero (suc k) up less lt = each x xs k up.0 (omega arith)
ascends (x ∷ xs) (suc j) (suc k) up less lt = ascends xs j k up.1 (omega arith) (omega arith)

sizes-ascend : IsAscending zone_sizes
unfolding IsAscending
sizes-ascend = search rules

-- all but the last are below the largest
below-largest : (k : ℕ) → k < 6 → get_or zone_sizes k 0 < largest_zone
below-largest k lt = ascends zone_sizes k 6 sizes-ascend lt (omega arith)

-- no zones of these sizes hold the blocks, 1,024 of them at most
pub record NoneHold (blocks count : ℕ) : Type 0 where
  pub none : (j others : ℕ) → j < count → 8 ≤ others → others ≤ 1024 → blocks ≤ share_of (planned_drive others (get_or zone_sizes j 0)) 80 → ⊥

pub none-more : (blocks count zones : ℕ) → NoneHold blocks count → IsFewest blocks (get_or zone_sizes count 0) zones → 1024 < zones → NoneHold blocks (count + 1)
none-more blocks count zones before fewest more = record {
  none = λ j others lt eight few holds. elim (cases_lt j count) [
    | inl here ↦ before.none j others here eight few holds
    | inr le ↦
        let is : j ≡ count = omega arith in
        let least = fewest.fewest others eight (subst (λ (n : ℕ). blocks ≤ share_of (planned_drive others (get_or zone_sizes n 0)) 80) is holds) in
        omega arith
  ];
}

-- a size is at least the first, and at most the last
pub size-in-range : (k : ℕ) → k < 7 → (4 ≤ get_or zone_sizes k 0) × (get_or zone_sizes k 0 ≤ largest_zone)
size-in-range k lt = (low, high)
  where
    low : 4 ≤ get_or zone_sizes k 0
    low = elim (cases_lt 0 k) [
      | inl less ↦ let up = ascends zone_sizes 0 k sizes-ascend less lt in omega arith
      | inr le ↦ let is : 0 ≡ k = omega arith in subst (λ (n : ℕ). 4 ≤ get_or zone_sizes n 0) is (omega arith)
    ]

    high : get_or zone_sizes k 0 ≤ largest_zone
    high = elim (cases_lt k 6) [
      | inl less ↦ let up = below-largest k less in omega arith
      | inr le ↦ let is : 6 ≡ k = omega arith in subst (λ (n : ℕ). get_or zone_sizes n 0 ≤ largest_zone) is (omega arith)
    ]

-- 2^30 logical blocks need few of the largest zones
pub largest-few : (blocks zones : ℕ) → blocks ≤ 2 ^ 30 → IsFewest blocks largest_zone zones → zones ≤ 65536
largest-few blocks zones few fewest = fewest.fewest 65536 (omega arith) (omega arith)

-- ---- the least drive

in-range : (zones size : ℕ) → 8 ≤ zones → zones ≤ 65536 → 4 ≤ size → size ≤ largest_zone → IsInRange (planned_drive zones size)
in-range zones size eight few four small = record {
  block = inr refl;
  zones = (omega arith, few);
  size = (omega arith, small);
  capacity = (four, omega arith);
  transfer = (omega arith, omega arith);
  active = (omega arith, omega arith);
  open_zones = (omega arith, omega arith);
}

-- it is no larger than another that holds the blocks and has zones of the j-th size
no-larger : (blocks k zones j : ℕ) (other : Geometry) → k < 7 → j < 7 → NoneHold blocks k → IsFewest blocks (get_or zone_sizes k 0) zones
    → 8 ≤ other.zones → (other.capacity < largest_zone → other.zones ≤ 1024) → get_or zone_sizes j 0 ≡ other.capacity
    → blocks ≤ share_of (planned_drive other.zones other.capacity) 80 → IsNoLarger (planned_drive zones (get_or zone_sizes k 0)) other
no-larger blocks k zones j other lt lt' none fewest eight most is holds = elim (cases_order j k) [
  | inl same ↦
      let size : get_or zone_sizes k 0 ≡ other.capacity = ap (λ (n : ℕ). get_or zone_sizes n 0) (sym same) ∙ is in
      inr (size, fewest.fewest other.zones eight (rw size holds))
  | inr (inl smaller) ↦
      let small = below-largest j (omega arith) in
      absurd (none.none j other.zones smaller eight (most (rw is at small)) (rw is holds))
  | inr (inr larger) ↦ inl (rw is at (ascends zone_sizes k j sizes-ascend larger lt'))
]

-- the first size of which so few zones hold the bytes
pub is-drive-for : (bytes k zones : ℕ) → k < 7 → zones ≤ 65536 → (k < 6 → zones ≤ 1024) → NoneHold (div_ceil bytes 4096) k
    → IsFewest (div_ceil bytes 4096) (get_or zone_sizes k 0) zones → IsDriveFor bytes (planned_drive zones (get_or zone_sizes k 0))
is-drive-for bytes k zones lt fit few none fewest =
    let size = get_or zone_sizes k 0 in
    let range = size-in-range k lt in
    record {
      range = in-range zones size fewest.least fit range.0 range.1;
      planned = record { shape = refl; capacity = (k, lt, at-same k size lt); least = fewest.least; most = λ small. few (not-last k lt small) };
      holds = holds-bytes bytes _ fewest.holds;
      least = λ other planned holds. is-least other planned holds;
    }
  where
    at-same : (k d : ℕ) → k < 7 → get_or zone_sizes k d ≡ get_or zone_sizes k 0
    at-same k d lt = get_or_default_zero zone_sizes k d lt

    not-last : (k : ℕ) → k < 7 → get_or zone_sizes k 0 < largest_zone → k < 6
    not-last k lt small = elim (cases_lt k 6) [
      | inl less ↦ less
      | inr le ↦ let is : k ≡ 6 = omega arith in absurd (let no = subst (λ (n : ℕ). get_or zone_sizes n 0 < largest_zone) is small in omega arith)
    ]

    is-least : (other : Geometry) → IsPlanned other → HoldsBytes bytes other → IsNoLarger (planned_drive zones (get_or zone_sizes k 0)) other
    is-least other planned holds =
        let j = planned.capacity.0 in
        let shares : share_of other 80 ≡ share_of (planned_drive other.zones other.capacity) 80 = ap (λ (g : Geometry). share_of g 80) planned.shape in
        let block : other.block ≡ 4096 = ap (λ (g : Geometry). g.block) planned.shape in
        no-larger (div_ceil bytes 4096) k zones j other lt planned.capacity.1 none fewest planned.least planned.most
        (sym (at-same j other.capacity planned.capacity.1) ∙ planned.capacity.2)
        (rw (← shares) (holds-blocks bytes (share_of other 80) (rw (← block) holds)))
