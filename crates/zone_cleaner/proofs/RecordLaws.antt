-- The live records of a zone, as places change.
use Rattle.std.proofs.Common.{◌≡◌, ℕ, zero, suc, ◌+◌, ◌<◌, ◌≤◌, Bool, true, false, cond, eqb, List, [], ◌∷◌, ◌++◌, map, length, set, get_or, take, drop, replicate, Some, None, refl, sym, ap, ◌∙◌, arith}
use Rattle.std.specs.Prelude.{nat_eq}
use Rattle.std.specs.List.{AllByRecursion, IsDistinct, count_by, slice_get}
use Rattle.std.proofs.lemmas.Bool.{eq-eqb, ne_eqb}
use Rattle.std.proofs.lemmas.List.{length-drop, length-take}
use Rattle.std.proofs.lemmas.List.Sums.{sum_by-cons, sum_by-take-drop}
use Rattle.logical_map.specs.Live.{blocks_in, lies_in}
use Rattle.logical_map.specs.declared.place.Place.{Place}
use Rattle.logical_map.specs.declared.place.Place.TheVariants as places
use Rattle.drive_array.specs.Records.{shown_content}
use Rattle.batch_log.specs.declared.header.Entry.{Entry}
use Rattle.zone_cleaner.specs.LiveRecords.{LiveRecord, live_content, records_in, without_all, without_block}

-- how many of these places are in a zone
abbrev pub live_in : ℕ → ℕ → List Place → ℕ
live_in size zone ps = count_by (lies_in size zone) ps

-- how many places are in a zone, by the first
pub live_in-cons : (size zone : ℕ) (p : Place) (ps : List Place) → live_in size zone (p ∷ ps) ≡ cond {A = ℕ} (lies_in size zone p) 1 0 + live_in size zone ps
live_in-cons size zone p ps = sum_by-cons (λ (q : Place). cond {A = ℕ} (lies_in size zone q) 1 0) p ps

-- by two parts
pub live_in-split : (size zone n : ℕ) (ps : List Place) → live_in size zone (take n ps) + live_in size zone (drop n ps) ≡ live_in size zone ps
live_in-split size zone n ps = sum_by-take-drop (λ (q : Place). cond {A = ℕ} (lies_in size zone q) 1 0) ps n

abbrev one_more : Bool → LiveRecord → List LiveRecord → List LiveRecord
one_more b r rs = cond b (r ∷ rs) rs

-- that is how many records the zone has
pub length-records_in : (array : List (List ℕ)) (size zone first : ℕ) (ps : List Place) → length (records_in array size zone first ps) ≡ live_in size zone ps
length-records_in array size zone first [] = refl
length-records_in array size zone first (p ∷ ps) = by (lies_in size zone p) (length-records_in array size zone (first + 1) ps) ∙ sym (live_in-cons size zone p ps)
  where
    by : (b : Bool) → length (records_in array size zone (first + 1) ps) ≡ live_in size zone ps
        → length (one_more b (record { block = first; content = live_content array first p }) (records_in array size zone (first + 1) ps)) ≡ cond {A = ℕ} b 1 0 + live_in size zone ps
    by true h = omega (arith, h)
    by false h = omega (arith, h)

-- the records of two parts
records_in-append : (array : List (List ℕ)) (size zone first : ℕ) (xs ys : List Place) → records_in array size zone first (xs ++ ys) ≡ records_in array size zone first xs ++ records_in array size zone (first + length xs) ys
records_in-append array size zone first [] ys = ap (λ (k : ℕ). records_in array size zone k ys) (omega arith)
records_in-append array size zone first (p ∷ xs) ys =
    by (lies_in size zone p) (records_in array size zone (first + 1) (xs ++ ys)) (records_in array size zone (first + 1) xs) (records_in array size zone (first + length (p ∷ xs)) ys) (records_in-append array size zone (first + 1) xs ys ∙ ap (λ (k : ℕ). records_in array size zone (first + 1) xs ++ records_in array size zone k ys) (omega arith))
  where
    by : (b : Bool) (all front rest : List LiveRecord) → all ≡ front ++ rest
        → one_more b (record { block = first; content = live_content array first p }) all ≡ one_more b (record { block = first; content = live_content array first p }) front ++ rest
    by true all front rest h = ap (λ (rs : List LiveRecord). record { block = first; content = live_content array first p } ∷ rs) h
    by false all front rest h = h

-- ---- the next record

take-add : {X : Type 0} (i n : ℕ) (xs : List X) → take (i + n) xs ≡ take i xs ++ take n (drop i xs)
take-add zero n xs = ap (λ (k : ℕ). take k xs) (omega arith)
take-add {X} (suc i) n [] = none (suc i + n) ∙ sym (none n)
  where
    none : (n : ℕ) → take {A = X} n [] ≡ []
    none zero = refl
    none (suc n) = refl
take-add {X} (suc i) n (x ∷ xs) = let e : suc i + n ≡ suc (i + n) = omega arith in ap (λ (k : ℕ). take k (x ∷ xs)) e ∙ ap (λ (ys : List X). x ∷ ys) (take-add i n xs)

-- the first block of these places that lies in a zone: those before it do not
record IsFirst (array : List (List ℕ)) (size zone first : ℕ) (ps : List Place) (block : ℕ) : Type 0 where
  k : ℕ
  at : block ≡ first + k
  below : k < length ps
  only : records_in array size zone first (take (suc k) ps) ≡ record { block = block; content = live_content array block (get_or ps k places.None) } ∷ []
  rest : live_in size zone (drop (suc k) ps) + 1 ≡ live_in size zone ps

head-some : (x : ℕ) (xs : List ℕ) (block : ℕ) → slice_get (x ∷ xs) 0 ≡ Some block → x ≡ block
head-some x xs block e = cc

first-in : (array : List (List ℕ)) (size zone first block : ℕ) (ps : List Place) → slice_get (blocks_in size zone first ps) 0 ≡ Some block → IsFirst array size zone first ps block
first-in array size zone first block [] e = absurd (cc)
first-in array size zone first block (p ∷ ps) e = by (lies_in size zone p) refl (first-in array size zone (first + 1) block ps) e
  where
    here : lies_in size zone p ≡ true → first ≡ block → IsFirst array size zone first (p ∷ ps) block
    here is same = record {
      k = 0;
      at = omega (arith, same);
      below = omega arith;
      only = rw (is, same) refl;
      rest = let one : cond {A = ℕ} (lies_in size zone p) 1 0 ≡ 1 = rw is refl in omega (arith, live_in-cons size zone p ps, one);
    }

    there : lies_in size zone p ≡ false → IsFirst array size zone (first + 1) ps block → IsFirst array size zone first (p ∷ ps) block
    there is more = record {
      k = suc more.k;
      at = omega (arith, more.at);
      below = omega (arith, more.below);
      only = rw is more.only;
      rest = let none : cond {A = ℕ} (lies_in size zone p) 1 0 ≡ 0 = rw is refl in omega (arith, live_in-cons size zone p ps, none, more.rest);
    }

    by : (b : Bool) → lies_in size zone p ≡ b → (slice_get (blocks_in size zone (first + 1) ps) 0 ≡ Some block → IsFirst array size zone (first + 1) ps block)
        → slice_get (cond b (first ∷ blocks_in size zone (first + 1) ps) (blocks_in size zone (first + 1) ps)) 0 ≡ Some block → IsFirst array size zone first (p ∷ ps) block
    by true is more e = here is (head-some first (blocks_in size zone (first + 1) ps) block e)
    by false is more e = there is (more e)

-- What taking the next record does: it is the last of those before the new cursor, and one fewer is left.
pub record Takes (array : List (List ℕ)) (size zone from : ℕ) (ps : List Place) (block : ℕ) : Type 0 where
  pub below : block < length ps
  pub after : from ≤ block
  pub more : records_in array size zone 0 (take (block + 1) ps) ≡ records_in array size zone 0 (take from ps) ++ record { block = block; content = live_content array block (get_or ps block places.None) } ∷ []
  pub rest : live_in size zone (drop (block + 1) ps) + 1 ≡ live_in size zone (drop from ps)

drop-drop : {X : Type 0} (i n : ℕ) (xs : List X) → drop n (drop i xs) ≡ drop (i + n) xs
drop-drop zero n xs = ap (λ (k : ℕ). drop k xs) (omega arith)
drop-drop {X} (suc i) n [] = none n ∙ sym (none (suc i + n))
  where
    none : (n : ℕ) → drop {A = X} n [] ≡ []
    none zero = refl
    none (suc n) = refl
drop-drop (suc i) n (x ∷ xs) = let e : suc (i + n) ≡ suc i + n = omega arith in drop-drop i n xs ∙ ap (λ (k : ℕ). drop k (x ∷ xs)) e

get_or-rest : (d : Place) (i k : ℕ) (xs : List Place) → get_or (drop i xs) k d ≡ get_or xs (i + k) d
get_or-rest d zero k xs = ap (λ (n : ℕ). get_or xs n d) (omega arith)
get_or-rest d (suc i) k [] = refl
get_or-rest d (suc i) k (x ∷ xs) = let e : suc (i + k) ≡ suc i + k = omega arith in get_or-rest d i k xs ∙ ap (λ (n : ℕ). get_or (x ∷ xs) n d) e

-- the next record of a zone
pub takes-next : (array : List (List ℕ)) (size zone from block : ℕ) (ps : List Place) → from ≤ length ps → slice_get (blocks_in size zone from (drop from ps)) 0 ≡ Some block → Takes array size zone from ps block
takes-next array size zone from block ps within e =
    let rest = drop from ps in
    let next = first-in array size zone from block rest e in
    let spot : block ≡ from + next.k = next.at in
    let end : block + 1 ≡ from + suc next.k = omega (arith, spot) in
    let front : take (block + 1) ps ≡ take from ps ++ take (suc next.k) rest = ap (λ (n : ℕ). take n ps) end ∙ take-add from (suc next.k) ps in
    let long : 0 + length (take from ps) ≡ from = omega (arith, length-take from ps, within) in
    let here : get_or rest next.k places.None ≡ get_or ps block places.None = get_or-rest places.None from next.k ps ∙ ap (λ (n : ℕ). get_or ps n places.None) (sym spot) in
    let only = rw here at next.only in
    record {
      below = omega (arith, spot, next.below, length-drop from ps);
      after = omega (arith, spot);
      more = ap (records_in array size zone 0) front ∙ records_in-append array size zone 0 (take from ps) (take (suc next.k) rest) ∙ ap (λ (n : ℕ). records_in array size zone 0 (take from ps) ++ records_in array size zone n (take (suc next.k) rest)) long
          ∙ ap (λ (rs : List LiveRecord). records_in array size zone 0 (take from ps) ++ rs) only;
      rest = omega (arith, next.rest, ap (live_in size zone) (drop-drop from (suc next.k) ps), ap (λ (n : ℕ). live_in size zone (drop n ps)) end);
    }

none-in : (size zone first : ℕ) (ps : List Place) → slice_get (blocks_in size zone first ps) 0 ≡ None → live_in size zone ps ≡ 0
none-in size zone first [] e = refl
none-in size zone first (p ∷ ps) e = by (lies_in size zone p) refl (none-in size zone (first + 1) ps) e
  where
    by : (b : Bool) → lies_in size zone p ≡ b → (slice_get (blocks_in size zone (first + 1) ps) 0 ≡ None → live_in size zone ps ≡ 0)
        → slice_get (cond b (first ∷ blocks_in size zone (first + 1) ps) (blocks_in size zone (first + 1) ps)) 0 ≡ None → live_in size zone (p ∷ ps) ≡ 0
    by true is more e = absurd (cc)
    by false is more e = let none : cond {A = ℕ} (lies_in size zone p) 1 0 ≡ 0 = rw is refl in omega (arith, live_in-cons size zone p ps, none, more e)

-- if there is none, nothing is left
pub takes-none : (size zone from : ℕ) (ps : List Place) → slice_get (blocks_in size zone from (drop from ps)) 0 ≡ None → live_in size zone (drop from ps) ≡ 0
takes-none size zone from ps e = none-in size zone from (drop from ps) e

-- ---- in ascending order

-- each record is of a block from one on and below another
abbrev pub AreBetween : ℕ → ℕ → List LiveRecord → Type 0
AreBetween low high rs = AllByRecursion (λ (r : LiveRecord). (low ≤ r.block) × (r.block < high)) rs

-- the records name blocks between two bounds
pub between : (array : List (List ℕ)) (size zone first high : ℕ) (ps : List Place) → first + length ps ≤ high → AreBetween first high (records_in array size zone first ps)
between array size zone first high [] le = tt
between array size zone first high (p ∷ ps) le = by (lies_in size zone p) (lower (records_in array size zone (first + 1) ps) (between array size zone (first + 1) high ps (omega arith)))
  where
    lower : (rs : List LiveRecord) → AreBetween (first + 1) high rs → AreBetween first high rs
    lower [] all = tt
    lower (r ∷ rs) all = ((omega (arith, all.0.0), all.0.1), lower rs all.1)

    by : (b : Bool) → AreBetween first high (records_in array size zone (first + 1) ps)
        → AreBetween first high (one_more b (record { block = first; content = live_content array first p }) (records_in array size zone (first + 1) ps))
    by true all = ((omega arith, omega (arith, le)), all)
    by false all = all

apart : (low high block : ℕ) (rs : List LiveRecord) → block < low → AreBetween low high rs → AllByRecursion (λ (y : ℕ). eqb block y ≡ false) (map (λ (r : LiveRecord). r.block) rs)
apart low high block [] lt all = tt
apart low high block (r ∷ rs) lt all = (ne_eqb block r.block (λ same. omega (arith, same, all.0.0, lt)), apart low high block rs lt all.1)

-- each once
pub distinct-blocks : (array : List (List ℕ)) (size zone first : ℕ) (ps : List Place) → IsDistinct nat_eq (map (λ (r : LiveRecord). r.block) (records_in array size zone first ps))
unfolding IsDistinct
distinct-blocks array size zone first [] = tt
distinct-blocks array size zone first (p ∷ ps) = by (lies_in size zone p) (distinct-blocks array size zone (first + 1) ps)
  where
    by : (b : Bool) → IsDistinct nat_eq (map (λ (r : LiveRecord). r.block) (records_in array size zone (first + 1) ps))
        → IsDistinct nat_eq (map (λ (r : LiveRecord). r.block) (one_more b (record { block = first; content = live_content array first p }) (records_in array size zone (first + 1) ps)))
    by true rest = (apart (first + 1) (first + 1 + length ps) first (records_in array size zone (first + 1) ps) (omega arith) (between array size zone (first + 1) (first + 1 + length ps) ps (omega arith)), rest)
    by false rest = rest

-- ---- what they say

-- a place that holds no data says that the block is zeros
abbrev pub ZerosUnlessData : List (List ℕ) → ℕ → ℕ → Place → Type 0
ZerosUnlessData array bytes block (places.At address) = Unit {0}
ZerosUnlessData array bytes block place = get_or array block [] ≡ replicate bytes 0

-- the records say what the array has
abbrev pub SayTheArray : List (List ℕ) → ℕ → List LiveRecord → Type 0
SayTheArray array bytes rs = AllByRecursion (λ (r : LiveRecord). get_or array r.block [] ≡ shown_content bytes r.content) rs

-- and say what the array has
pub say-the-array : (array : List (List ℕ)) (bytes size zone first : ℕ) (ps : List Place) → ((k : ℕ) → k < length ps → ZerosUnlessData array bytes (first + k) (get_or ps k places.None)) → SayTheArray array bytes (records_in array size zone first ps)
say-the-array array bytes size zone first [] each = tt
say-the-array array bytes size zone first (p ∷ ps) each =
    by (lies_in size zone p) (one p (let here = each 0 (omega arith) in rw (same) at here)) (say-the-array array bytes size zone (first + 1) ps rest)
  where
    same : first + 0 ≡ first
    same = omega arith

    one : (p : Place) → ZerosUnlessData array bytes first p → get_or array first [] ≡ shown_content bytes (live_content array first p)
    one places.None zeros = zeros
    one (places.Trimmed address) zeros = zeros
    one (places.At address) says = refl

    rest : (k : ℕ) → k < length ps → ZerosUnlessData array bytes (first + 1 + k) (get_or ps k places.None)
    rest k lt = let next : first + suc k ≡ first + 1 + k = omega arith in rw next at (each (suc k) (omega (arith, lt)))

    by : (b : Bool) → get_or array first [] ≡ shown_content bytes (live_content array first p) → SayTheArray array bytes (records_in array size zone (first + 1) ps)
        → SayTheArray array bytes (one_more b (record { block = first; content = live_content array first p }) (records_in array size zone (first + 1) ps))
    by true says all = (says, all)
    by false says all = all

-- ---- a block is placed elsewhere

skip-one : (b : Bool) (block : ℕ) (r : LiveRecord) (rs : List LiveRecord) → (eqb block r.block ≡ false) → one_more b r (without_block block rs) ≡ without_block block (one_more b r rs)
skip-one true block r rs apart = rw apart refl
skip-one false block r rs apart = refl

absent : (low high block : ℕ) (rs : List LiveRecord) → block < low → AreBetween low high rs → without_block block rs ≡ rs
absent low high block [] lt all = refl
absent low high block (r ∷ rs) lt all = rw (ne_eqb block r.block (λ same. omega (arith, same, all.0.0, lt))) (ap (λ (l : List LiveRecord). r ∷ l) (absent low high block rs lt all.1))

-- its record is no longer there
records_in-set : (array : List (List ℕ)) (size zone first k block : ℕ) (ps : List Place) (p : Place) → block ≡ first + k → lies_in size zone p ≡ false → records_in array size zone first (set ps k p) ≡ without_block block (records_in array size zone first ps)
records_in-set array size zone first k block [] p e away = refl
records_in-set array size zone first zero block (q ∷ ps) p e away =
    let low = between array size zone (first + 1) (first + 1 + length ps) ps (omega arith) in
    rw away (by (lies_in size zone q) (absent (first + 1) (first + 1 + length ps) block (records_in array size zone (first + 1) ps) (omega (arith, e)) low))
  where
    by : (b : Bool) → without_block block (records_in array size zone (first + 1) ps) ≡ records_in array size zone (first + 1) ps
        → records_in array size zone (first + 1) ps ≡ without_block block (one_more b (record { block = first; content = live_content array first q }) (records_in array size zone (first + 1) ps))
    by true none = let here : eqb block first ≡ true = eq-eqb block first (omega (arith, e)) in rw here refl
    by false none = sym none
records_in-set array size zone first (suc k) block (q ∷ ps) p e away =
    let other : eqb block first ≡ false = ne_eqb block first (λ same. omega (arith, same, e)) in
    ap (one_more (lies_in size zone q) (record { block = first; content = live_content array first q })) (records_in-set array size zone (first + 1) k block ps p (omega (arith, e)) away)
    ∙ skip-one (lies_in size zone q) block (record { block = first; content = live_content array first q }) (records_in array size zone (first + 1) ps) other

take-set : {X : Type 0} (n k : ℕ) (xs : List X) (x : X) → take n (set xs k x) ≡ set (take n xs) k x
take-set zero k [] x = refl
take-set zero k (y ∷ ys) x = refl
take-set (suc n) k [] x = refl
take-set (suc n) zero (y ∷ ys) x = refl
take-set {X} (suc n) (suc k) (y ∷ ys) x = ap (λ (zs : List X). y ∷ zs) (take-set n k ys x)

-- a block that moved away is no record any more
pub taken-set : (array : List (List ℕ)) (size zone cursor block : ℕ) (ps : List Place) (p : Place) → lies_in size zone p ≡ false → records_in array size zone 0 (take cursor (set ps block p)) ≡ without_block block (records_in array size zone 0 (take cursor ps))
taken-set array size zone cursor block ps p away = ap (records_in array size zone 0) (take-set cursor block ps p) ∙ records_in-set array size zone 0 block block (take cursor ps) p (omega arith) away

-- no more blocks are in the zone than before
pub live_in-set : (size zone block : ℕ) (ps : List Place) (p : Place) → lies_in size zone p ≡ false → live_in size zone (set ps block p) ≤ live_in size zone ps
live_in-set size zone block [] p away = omega arith
live_in-set size zone zero (q ∷ ps) p away =
    let none : cond {A = ℕ} (lies_in size zone p) 1 0 ≡ 0 = rw away refl in
    omega (arith, live_in-cons size zone p ps, live_in-cons size zone q ps, none)
live_in-set size zone (suc block) (q ∷ ps) p away = omega (arith, live_in-cons size zone q (set ps block p), live_in-cons size zone q ps, live_in-set size zone block ps p away)

-- and no more are left
pub left-set : (size zone cursor block : ℕ) (ps : List Place) (p : Place) → lies_in size zone p ≡ false → live_in size zone (drop cursor (set ps block p)) ≤ live_in size zone (drop cursor ps)
left-set size zone zero block ps p away = live_in-set size zone block ps p away
left-set size zone (suc cursor) block [] p away = omega arith
left-set size zone (suc cursor) zero (q ∷ ps) p away = omega arith
left-set size zone (suc cursor) (suc block) (q ∷ ps) p away = left-set size zone cursor block ps p away

-- ---- another array

-- records say the same of an array that has the same data in the zone's blocks
pub records_in-array : (old new : List (List ℕ)) (size zone first : ℕ) (ps : List Place) → ((k : ℕ) → k < length ps → lies_in size zone (get_or ps k places.None) ≡ true → get_or new (first + k) [] ≡ get_or old (first + k) [])
    → records_in new size zone first ps ≡ records_in old size zone first ps
records_in-array old new size zone first [] same = refl
records_in-array old new size zone first (p ∷ ps) same =
    by (lies_in size zone p) refl (records_in-array old new size zone (first + 1) ps rest)
  where
    rest : (k : ℕ) → k < length ps → lies_in size zone (get_or ps k places.None) ≡ true → get_or new (first + 1 + k) [] ≡ get_or old (first + 1 + k) []
    rest k lt lies = let next : first + suc k ≡ first + 1 + k = omega arith in rw next at (same (suc k) (omega (arith, lt)) lies)

    one : (q : Place) → get_or new first [] ≡ get_or old first [] → live_content new first q ≡ live_content old first q
    one places.None e = refl
    one (places.Trimmed address) e = refl
    one (places.At address) e = ap (λ (c : List ℕ). Some c) e

    by : (b : Bool) → lies_in size zone p ≡ b → records_in new size zone (first + 1) ps ≡ records_in old size zone (first + 1) ps
        → one_more b (record { block = first; content = live_content new first p }) (records_in new size zone (first + 1) ps) ≡ one_more b (record { block = first; content = live_content old first p }) (records_in old size zone (first + 1) ps)
    by true is e =
        let here : first + 0 ≡ first = omega arith in
        let content = one p (rw here at (same 0 (omega arith) is)) in
        rw (content, e) refl
    by false is e = e

-- ---- records are dropped

below-one : (high block : ℕ) (rs : List LiveRecord) → AllByRecursion (λ (r : LiveRecord). r.block < high) rs → AllByRecursion (λ (r : LiveRecord). r.block < high) (without_block block rs)
below-one high block [] all = tt
below-one high block (r ∷ rs) all = by (eqb block r.block) (below-one high block rs all.1)
  where
    by : (b : Bool) → AllByRecursion (λ (r : LiveRecord). r.block < high) (without_block block rs) → AllByRecursion (λ (r : LiveRecord). r.block < high) (cond b rs (r ∷ without_block block rs))
    by true rest = all.1
    by false rest = (all.0, rest)

-- the others are where they were
pub below-without : (high : ℕ) (es : List Entry) (rs : List LiveRecord) → AllByRecursion (λ (r : LiveRecord). r.block < high) rs → AllByRecursion (λ (r : LiveRecord). r.block < high) (without_all es rs)
below-without high [] rs all = all
below-without high (e ∷ es) rs all = below-without high es (without_block e.block rs) (below-one high e.block rs all)

-- one more is after them
pub below-more : (low high : ℕ) (rs : List LiveRecord) (r : LiveRecord) → low ≤ high → AllByRecursion (λ (r : LiveRecord). r.block < low) rs → r.block < high → AllByRecursion (λ (r : LiveRecord). r.block < high) (rs ++ r ∷ [])
below-more low high [] r le all lt = (lt, tt)
below-more low high (first ∷ rs) r le all lt = (omega (arith, all.0, le), below-more low high rs r le all.1 lt)

-- ---- the next record

-- it is not below the cursor, and its block is the disk's
pub next-within : (array : List (List ℕ)) (size zone from block : ℕ) (ps : List Place) → slice_get (blocks_in size zone from (drop from ps)) 0 ≡ Some block → (from ≤ block) × (block < length ps)
next-within array size zone from block ps e =
    let next = first-in array size zone from block (drop from ps) e in
    (omega (arith, next.at), omega (arith, next.at, next.below, length-drop from ps))
