-- How many live records each zone has.
use Rattle.std.proofs.Common.{◌≡◌, ℕ, zero, suc, ◌+◌, ◌-◌, ◌<◌, ◌≤◌, ◌^◌, Bool, true, false, cond, ltb, List, [], ◌∷◌, length, set, get_or, replicate, Option, Some, None, refl, sym, ap, ◌∙◌, inl, inr, arith}
use Rattle.std.specs.List.{AllByRecursion, count_by}
use Rattle.std.specs.Option.{IfSome}
use Rattle.std.proofs.lemmas.Bool.{cases_lt, eq-eqb, le-ltb, lt-ltb, ltb-true}
use Rattle.std.proofs.lemmas.List.{length-append, length-set, set_past}
use Rattle.std.proofs.lemmas.List.Sums.{count_by-le-length, sum_by-append, sum_by-cons}
use Rattle.logical_map.specs.Counts.{lowered, raised}
use Rattle.logical_map.specs.Live.{is_zone, lies_in, live, zone_below, zone_in, zone_of}
use Rattle.logical_map.specs.Places.{MapGrows, MapView}
use Rattle.logical_map.specs.declared.place.Place.{Place}
use Rattle.logical_map.specs.declared.place.Place.TheVariants as places
use Rattle.drive_array.proofs.AllLaws.{all-weaker}
use Rattle.logical_map.proofs.Counting.{counts-set, length-lowered, length-raised, lowered-live}
use Rattle.zone_choice.specs.declared.unreadable.Unreadable.{Unreadable}
use Rattle.zone_choice.specs.Tables.{AreLive, AreOfBlocks}

-- ---- a block is placed

-- the zone of a place, if the drive has it
if-below : (zones : ℕ) (o : Option ℕ) (P : ℕ → Type 0) → ((zone : ℕ) → zone < zones → is_zone o zone ≡ true → P zone) → IfSome (zone_below zones o) P
if-below zones None P each = tt
if-below zones (Some zone) P each = by (ltb zone zones) refl
  where
    by : (b : Bool) → ltb zone zones ≡ b → IfSome (cond b (Some zone) None) P
    by true e = each zone (ltb-true zone zones e) (eq-eqb zone zone refl)
    by false e = tt

lowered-below : (zones : ℕ) (o : Option ℕ) (counts : List ℕ) → length counts ≡ zones → lowered (zone_below zones o) counts ≡ lowered o counts
lowered-below zones None counts long = refl
lowered-below zones (Some zone) counts long = elim (cases_lt zone zones) as (λ _. lowered (zone_below zones (Some zone)) counts ≡ lowered (Some zone) counts) [
  | inl lt ↦ rw (lt-ltb zone zones lt) refl
  | inr past ↦ rw (le-ltb zone zones past) (sym (set_past counts zone (get_or counts zone 0 - 1) (omega arith)))
]

raised-below : (zones : ℕ) (o : Option ℕ) (counts : List ℕ) → length counts ≡ zones → raised (zone_below zones o) counts ≡ raised o counts
raised-below zones None counts long = refl
raised-below zones (Some zone) counts long = elim (cases_lt zone zones) as (λ _. raised (zone_below zones (Some zone)) counts ≡ raised (Some zone) counts) [
  | inl lt ↦ rw (lt-ltb zone zones lt) refl
  | inr past ↦ rw (le-ltb zone zones past) (sym (set_past counts zone (get_or counts zone 0 + 1) (omega arith)))
]

-- without it, no zone has all blocks of the new place's zone
pub can_raise : (map : MapView) (counts : List ℕ) (block : ℕ) (place : Place) → AreLive map counts → block < length map.places → length map.places ≤ 2 ^ 31
    → IfSome (zone_in map place) (λ zone. (zone < length (lowered (zone_in map (get_or map.places block places.None)) counts)) × (get_or (lowered (zone_in map (get_or map.places block places.None)) counts) zone 0 < 2 ^ 31))
can_raise map counts block place are lt few =
    rw (lowered-below map.zones was counts are.long)
    (if-below map.zones (zone_of map.zone_size place) (λ zone. (zone < length (lowered was counts)) × (get_or (lowered was counts) zone 0 < 2 ^ 31)) each)
  where
    was : Option ℕ
    was = zone_of map.zone_size (get_or map.places block places.None)

    each : (zone : ℕ) → zone < map.zones → is_zone (zone_of map.zone_size place) zone ≡ true → (zone < length (lowered was counts)) × (get_or (lowered was counts) zone 0 < 2 ^ 31)
    each zone below here =
        let sum = rw here at (lowered-live map.zone_size map.places counts zone block place (λ z h. are.each z (omega (arith, h, are.long))) lt (omega (arith, below, are.long))) in
        (omega (arith, below, are.long, length-lowered was counts), omega (arith, sum, few, count_by-le-length (lies_in map.zone_size zone) (set map.places block place), length-set map.places block place))

-- a zone that a block is in has a live record
lies-counted : (p : Place → Bool) (all : List Place) (k : ℕ) → k < length all → p (get_or all k places.None) ≡ true → 1 ≤ count_by p all
lies-counted p [] k lt here = absurd (omega (arith, lt))
lies-counted p (x ∷ xs) zero lt here = let one : cond {A = ℕ} (p x) 1 0 ≡ 1 = rw here refl in omega (arith, one, sum_by-cons (λ (y : Place). cond {A = ℕ} (p y) 1 0) x xs)
lies-counted p (x ∷ xs) (suc k) lt here = omega (arith, lies-counted p xs k (omega (arith, lt)) here, sum_by-cons (λ (y : Place). cond {A = ℕ} (p y) 1 0) x xs)

pub can_lower : (map : MapView) (counts : List ℕ) (block : ℕ) → AreLive map counts → block < length map.places
    → IfSome (zone_in map (get_or map.places block places.None)) (λ zone. (zone < length counts) × (0 < get_or counts zone 0))
can_lower map counts block are lt =
    if-below map.zones (zone_of map.zone_size (get_or map.places block places.None)) (λ zone. (zone < length counts) × (0 < get_or counts zone 0))
    (λ zone below here. (omega (arith, below, are.long), omega (arith, are.each zone below, lies-counted (lies_in map.zone_size zone) map.places block lt here)))

-- a map that has grown has as many live records in each zone
pub live-grown : (old new : MapView) (count : ℕ) (counts : List ℕ) → MapGrows old count new → AreLive old counts → AreLive new counts
live-grown old new count counts grows are = record {
  long = are.long ∙ sym grows.zones;
  each = λ zone below. are.each zone (omega (arith, below, grows.zones)) ∙ sym (same zone);
}
  where
    more : (size zone n : ℕ) → count_by (lies_in size zone) (replicate n places.None) ≡ 0
    more size zone zero = refl
    more size zone (suc n) = omega (arith, more size zone n, sum_by-cons (λ (p : Place). cond {A = ℕ} (lies_in size zone p) 1 0) places.None (replicate n places.None))

    same : (zone : ℕ) → live new zone ≡ live old zone
    same zone =
        let n = count - length old.places in
        rw (grows.places, grows.zone_size) (omega (arith, sum_by-append (λ (p : Place). cond {A = ℕ} (lies_in old.zone_size zone p) 1 0) old.places (replicate n places.None), more old.zone_size zone n))

-- the blocks are still those of a map that has grown
pub blocks-grown : (old new : MapView) (count : ℕ) (lost : List Unreadable) → MapGrows old count new → AreOfBlocks old lost → AreOfBlocks new lost
blocks-grown old new count lost grows are =
    all-weaker (λ (one : Unreadable). one.block < length old.places) (λ (one : Unreadable). one.block < length new.places) lost
    (λ one lt. omega (arith, lt, ap length grows.places, length-append old.places (replicate (count - length old.places) places.None))) are

-- a block is placed, and the counts of live records follow
pub live-placed : (map : MapView) (counts : List ℕ) (block : ℕ) (place : Place) → AreLive map counts → block < length map.places
    → AreLive (record map { places = set map.places block place }) (raised (zone_in map place) (lowered (zone_in map (get_or map.places block places.None)) counts))
live-placed map counts block place are lt =
    let was = zone_of map.zone_size (get_or map.places block places.None) in
    let few : length (lowered was counts) ≡ map.zones = length-lowered was counts ∙ are.long in
    let long : length (raised (zone_of map.zone_size place) (lowered was counts)) ≡ map.zones = length-raised (zone_of map.zone_size place) (lowered was counts) ∙ few in
    rw (lowered-below map.zones was counts are.long, raised-below map.zones (zone_of map.zone_size place) (lowered was counts) few) (record {
      long = long;
      each = λ zone below. counts-set map.zone_size map.places counts block place (λ z h. are.each z (omega (arith, h, are.long))) lt zone (omega (arith, below, long));
    })
