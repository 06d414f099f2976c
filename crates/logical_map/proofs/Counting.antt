-- How many blocks are in each zone: one place changed, and more blocks.
use Rattle.std.proofs.Common.{◌≡◌, ◌≢◌, ℕ, zero, suc, ◌+◌, ◌-◌, ◌/◌, ◌%◌, ◌^◌, ◌<◌, ◌≤◌, true, cond, eqb, List, [], ◌++◌, length, take, set, get_or, replicate, Option, Some, refl, sym, ap, ◌∙◌, inl, inr, arith}
use Rattle.std.specs.List.{count_by}
use Rattle.std.specs.Option.{IfSome, is_some}
use Rattle.std.proofs.lemmas.Bool.{cases_eq, cases_lt, eq-eqb, false≢true, ne_eqb}
use Rattle.std.proofs.lemmas.List.{get_or-append_right, get_or-set_same, get_or-set_other, get_or_append_left, get_or_past, length-append, length-replicate, length-set, take_all}
use Rattle.std.proofs.lemmas.List.Sums.{count_by-le-length, get_or-le-sum_by, sum_by-append, sum_by-set}
use Rattle.std.proofs.lemmas.List.Folds.{sum_by-replicate}
use Rattle.logical_map.specs.declared.place.Place.{Place}
use Rattle.logical_map.specs.declared.place.Place.TheVariants as places
use Rattle.logical_map.specs.Counts.{IsKept, lowered, raised}
use Rattle.logical_map.specs.Live.{is_zone, lies_in, zone_of}
use Rattle.logical_map.specs.Pages.{paged_places}
use Rattle.logical_map.proofs.Showing.{length-shown, none-at, none_from-reserve, none_from-set, shown-empty, shown-grow, shown-reserve, shown-set}

-- there are as many counts after one is raised
pub length-raised : (here : Option ℕ) (counts : List ℕ) → length (raised here counts) ≡ length counts
length-raised Option.None counts = refl
length-raised (Some zone) counts = length-set counts zone (get_or counts zone 0 + 1)

-- or lowered
pub length-lowered : (here : Option ℕ) (counts : List ℕ) → length (lowered here counts) ≡ length counts
length-lowered Option.None counts = refl
length-lowered (Some zone) counts = length-set counts zone (get_or counts zone 0 - 1)

raised-at : (here : Option ℕ) (counts : List ℕ) (zone : ℕ) → zone < length counts → get_or (raised here counts) zone 0 ≡ get_or counts zone 0 + cond (is_zone here zone) 1 0
raised-at Option.None counts zone h = omega arith
raised-at (Some other) counts zone h = elim (cases_eq zone other) as (λ _. get_or (set counts other (get_or counts other 0 + 1)) zone 0 ≡ get_or counts zone 0 + cond (eqb other zone) 1 0) [
  | inl e ↦ rw (e, eq-eqb other other refl) (get_or-set_same counts other (get_or counts other 0 + 1) 0 (omega arith))
  | inr n ↦ rw (ne_eqb other zone (λ e. n (sym e)), get_or-set_other counts other zone (get_or counts other 0 + 1) 0 n) (omega arith)
]

lowered-at : (here : Option ℕ) (counts : List ℕ) (zone : ℕ) → zone < length counts → get_or (lowered here counts) zone 0 ≡ get_or counts zone 0 - cond (is_zone here zone) 1 0
lowered-at Option.None counts zone h = omega arith
lowered-at (Some other) counts zone h = elim (cases_eq zone other) as (λ _. get_or (set counts other (get_or counts other 0 - 1)) zone 0 ≡ get_or counts zone 0 - cond (eqb other zone) 1 0) [
  | inl e ↦ rw (e, eq-eqb other other refl) (get_or-set_same counts other (get_or counts other 0 - 1) 0 (omega arith))
  | inr n ↦ rw (ne_eqb other zone (λ e. n (sym e)), get_or-set_other counts other zone (get_or counts other 0 - 1) 0 n) (omega arith)
]

-- one place is set: a zone has one block less where the old place was, and one more where the new one is
live-set : (size : ℕ) (all : List Place) (zone block : ℕ) (place : Place) → block < length all
    → count_by (lies_in size zone) (set all block place) + cond (lies_in size zone (get_or all block places.None)) 1 0 ≡ count_by (lies_in size zone) all + cond (lies_in size zone place) 1 0
live-set size all zone block place h = sum_by-set (λ p. cond (lies_in size zone p) 1 0) all block place places.None h

-- each count is how many places are in its zone
abbrev pub AreCounts : ℕ → List Place → List ℕ → Type 0
AreCounts size all counts = (zone : ℕ) → zone < length counts → get_or counts zone 0 ≡ count_by (lies_in size zone) all

-- the count of a zone, where the old place of a block is no longer counted
pub lowered-live : (size : ℕ) (all : List Place) (counts : List ℕ) (zone block : ℕ) (place : Place) → AreCounts size all counts → block < length all → zone < length counts
    → get_or (lowered (zone_of size (get_or all block places.None)) counts) zone 0 + cond (lies_in size zone place) 1 0 ≡ count_by (lies_in size zone) (set all block place)
lowered-live size all counts zone block place are h below =
    omega (arith, lowered-at (zone_of size (get_or all block places.None)) counts zone below, are zone below, live-set size all zone block place h, get_or-le-sum_by (λ p. cond (lies_in size zone p) 1 0) all block places.None h)

-- the counts of one place set: the old zone is lowered, and the new one raised
pub counts-set : (size : ℕ) (all : List Place) (counts : List ℕ) (block : ℕ) (place : Place) → AreCounts size all counts → block < length all
    → AreCounts size (set all block place) (raised (zone_of size place) (lowered (zone_of size (get_or all block places.None)) counts))
counts-set size all counts block place are h = λ zone below.
    let old = zone_of size (get_or all block places.None) in
    omega (arith, raised-at (zone_of size place) (lowered old counts) zone (omega (arith, below, length-raised (zone_of size place) (lowered old counts))), lowered-live size all counts zone block place are h (omega (arith, below, length-raised (zone_of size place) (lowered old counts), length-lowered old counts)))

if_some : (o : Option ℕ) (P : ℕ → Type 0) → ((zone : ℕ) → is_zone o zone ≡ true → P zone) → IfSome o P
if_some Option.None P f = tt
if_some (Some zone) P f = f zone (eq-eqb zone zone refl)

can_raise : (size : ℕ) (all : List Place) (counts : List ℕ) (block : ℕ) (place : Place) → AreCounts size all counts → block < length all → length all < 2 ^ 32
    → IfSome (zone_of size place) (λ zone. get_or (lowered (zone_of size (get_or all block places.None)) counts) zone 0 + 1 < 2 ^ 32)
can_raise size all counts block place are h few = if_some (zone_of size place) (λ zone. get_or (lowered old counts) zone 0 + 1 < 2 ^ 32) fits
  where
    old : Option ℕ
    old = zone_of size (get_or all block places.None)

    fits : (zone : ℕ) → is_zone (zone_of size place) zone ≡ true → get_or (lowered old counts) zone 0 + 1 < 2 ^ 32
    fits zone here = elim (cases_lt zone (length counts)) as (λ _. get_or (lowered old counts) zone 0 + 1 < 2 ^ 32) [
      | inl below ↦ omega (arith, rw here at (lowered-live size all counts zone block place are h below), count_by-le-length (lies_in size zone) (set all block place), length-set all block place)
      | inr past ↦ omega (arith, get_or_past (lowered old counts) zone 0 (omega (arith, length-lowered old counts)))
    ]

-- ---- what the map keeps

-- blocks that have no place are in no zone
pub live-none : (size n zone : ℕ) → count_by (lies_in size zone) (replicate n places.None) ≡ 0
live-none size n zone = omega (arith, sum_by-replicate (λ p. cond (lies_in size zone p) 1 0) n places.None)

-- blocks that have no place are in no zone, also after others
pub live-grow : (size n zone : ℕ) (all : List Place) → count_by (lies_in size zone) (all ++ replicate n places.None) ≡ count_by (lies_in size zone) all
live-grow size n zone all = omega (arith, sum_by-append (λ p. cond (lies_in size zone p) 1 0) all (replicate n places.None), live-none size n zone)

live-same : (size zone : ℕ) (xs ys : List Place) → xs ≡ ys → count_by (lies_in size zone) xs ≡ count_by (lies_in size zone) ys
live-same size zone xs ys e = ap (λ (all : List Place). count_by (lies_in size zone) all) e

-- without pages the counts are empty
pub kept-new : (page : ℕ → Option (List Place)) (n zones size : ℕ) → ((number : ℕ) → page number ≡ Option.None) → IsKept page n zones size []
kept-new page n zones size none = record {
  past = λ k above. none-at page k (none (k / 256));
  counted = λ zone q. sym (live-same size zone (paged_places page n) (replicate n places.None) (shown-empty page n none) ∙ live-none size n zone);
  made = λ number there. absurd (false≢true (sym (ap is_some (none number)) ∙ there));
  few = omega arith;
}

-- more blocks need no more counts
pub kept-grow : (page : ℕ → Option (List Place)) (n count zones size : ℕ) (counts : List ℕ) → IsKept page n zones size counts → n ≤ count → IsKept page count zones size counts
kept-grow page n count zones size counts kept more = record {
  past = λ k above. kept.past k (omega arith);
  counted = λ zone q. kept.counted zone q ∙ sym (live-same size zone (paged_places page count) (paged_places page n ++ replicate (count - n) places.None) (shown-grow page n count kept.past more) ∙ live-grow size (count - n) zone (paged_places page n));
  made = kept.made;
  few = kept.few;
}

-- a count for each zone
abbrev pub Widens : List ℕ → ℕ → List ℕ → Type 0
Widens counts zones new = new ≡ take zones counts ++ replicate (zones - length counts) 0

widened-at : (counts : List ℕ) (zones : ℕ) (new : List ℕ) → length counts ≤ zones → Widens counts zones new → (length new ≡ zones) × ((zone : ℕ) → get_or new zone 0 ≡ get_or counts zone 0)
widened-at counts zones new few e =
    let same : new ≡ counts ++ replicate (zones - length counts) 0 = e ∙ ap (λ (xs : List ℕ). xs ++ replicate (zones - length counts) 0) (take_all zones counts few) in
    (ap length same ∙ omega (arith, length-append counts (replicate (zones - length counts) 0), length-replicate {A = ℕ} (zones - length counts) 0), λ zone. ap (λ (xs : List ℕ). get_or xs zone 0) same ∙ at zone)
  where
    zeros : (n i : ℕ) → get_or (replicate {A = ℕ} n 0) i 0 ≡ 0
    zeros zero i = refl
    zeros (suc n) zero = refl
    zeros (suc n) (suc i) = zeros n i

    at : (zone : ℕ) → get_or (counts ++ replicate (zones - length counts) 0) zone 0 ≡ get_or counts zone 0
    at zone = elim (cases_lt zone (length counts)) as (λ _. get_or (counts ++ replicate (zones - length counts) 0) zone 0 ≡ get_or counts zone 0) [
      | inl below ↦ get_or_append_left counts (replicate (zones - length counts) 0) 0 zone below
      | inr past ↦ get_or-append_right counts (replicate (zones - length counts) 0) (length counts) zone 0 refl past ∙ zeros (zones - length counts) (zone - length counts) ∙ sym (get_or_past counts zone 0 past)
    ]

-- nor are they wrong with zeros after them
pub kept-widen : (page : ℕ → Option (List Place)) (n zones size : ℕ) (counts new : List ℕ) → IsKept page n zones size counts → Widens counts zones new → IsKept page n zones size new
kept-widen page n zones size counts new kept wide =
    let w = widened-at counts zones new kept.few wide in
    record { past = kept.past; counted = λ zone q. w.1 zone ∙ kept.counted zone q; made = λ m there. w.0; few = omega (arith, w.0) }

-- a page that is made has no places, and the counts reach all zones
pub kept-reserve : (page page' : ℕ → Option (List Place)) (n zones size number : ℕ) (counts new : List ℕ) → IsKept page n zones size counts → Widens counts zones new → page number ≡ Option.None → page' number ≡ Some (replicate 256 places.None) → ((m : ℕ) → m ≢ number → page' m ≡ page m)
    → IsKept page' n zones size new
kept-reserve page page' n zones size number counts new kept wide none fresh others =
    let w = widened-at counts zones new kept.few wide in
    record {
      past = none_from-reserve page page' n number kept.past none fresh others;
      counted = λ zone q. w.1 zone ∙ kept.counted zone q ∙ sym (live-same size zone (paged_places page' n) (paged_places page n) (shown-reserve page page' n number none fresh others));
      made = λ m there. w.0;
      few = omega (arith, w.0);
    }

-- a place is set in its page, and the counts follow
pub kept-set : (page page' : ℕ → Option (List Place)) (n zones size block : ℕ) (counts : List ℕ) (p : List Place) (place : Place) → IsKept page n zones size counts → block < n → length p ≡ 256 → page (block / 256) ≡ Some p → page' (block / 256) ≡ Some (set p (block % 256) place) → ((m : ℕ) → m ≢ block / 256 → page' m ≡ page m)
    → IsKept page' n zones size (raised (zone_of size place) (lowered (zone_of size (get_or (paged_places page n) block places.None)) counts))
kept-set page page' n zones size block counts p place kept below long old new others =
    let was = zone_of size (get_or (paged_places page n) block places.None) in
    let whole : length counts ≡ zones = kept.made (block / 256) (ap is_some old) in
    let same : length (raised (zone_of size place) (lowered was counts)) ≡ zones = length-raised (zone_of size place) (lowered was counts) ∙ length-lowered was counts ∙ whole in
    record {
      past = none_from-set page page' n block p place kept.past below old new others;
      counted = λ zone q. counts-set size (paged_places page n) counts block place (λ z h. kept.counted z (omega (arith, h, whole))) (omega (arith, below, length-shown page n)) zone (omega (arith, q, same)) ∙ sym (live-same size zone (paged_places page' n) (set (paged_places page n) block place) (shown-set page page' n block p place below long old new others));
      made = λ m there. same;
      few = omega (arith, same);
    }

-- no count grows past the number of blocks
pub kept-raise : (page : ℕ → Option (List Place)) (n zones size block : ℕ) (counts : List ℕ) (place : Place) → IsKept page n zones size counts → block < n → n < 2 ^ 32
    → IfSome (zone_of size place) (λ zone. get_or (lowered (zone_of size (get_or (paged_places page n) block places.None)) counts) zone 0 + 1 < 2 ^ 32)
kept-raise page n zones size block counts place kept below few =
    can_raise size (paged_places page n) counts block place (λ z h. kept.counted z (omega (arith, h, kept.few))) (omega (arith, below, length-shown page n)) (omega (arith, few, length-shown page n))

-- the count of a zone
pub kept-count : (page : ℕ → Option (List Place)) (n zones size zone : ℕ) (counts : List ℕ) → IsKept page n zones size counts → zone < zones → length counts ≤ zone → 0 ≡ count_by (lies_in size zone) (paged_places page n)
kept-count page n zones size zone counts kept below past = sym (get_or_past counts zone 0 past) ∙ kept.counted zone below
