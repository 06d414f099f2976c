-- Torn zones, and the blocks whose newest record is in one.
use Rattle.std.proofs.Common.{◌≡◌, ℕ, suc, ◌+◌, ◌<◌, ◌≤◌, Bool, true, false, cond, ◌&&◌, List, [], ◌∷◌, ◌++◌, drop, length, get_or, Some, None, refl, sym, ap, ◌∙◌, arith, append-nil, append_assoc}
use Rattle.std.specs.Prelude.{slice_get}
use Rattle.std.proofs.lemmas.List.{drop-drop, length-drop, get_or-drop}
use Rattle.std.proofs.lemmas.List.Sums.{count_by-le-length, sum_by-cons}
use Rattle.logical_map.proofs.Parts.{first-none, first-parts}
use Rattle.logical_map.specs.Live.{blocks_in, first_record, lies_in}
use Rattle.logical_map.specs.declared.place.Place.{Place}
use Rattle.logical_map.specs.declared.place.Place.TheVariants as places
use Rattle.zone_choice.specs.Tables.{TablesView, size_of}
use Rattle.remount.specs.Torn.{data_count_at, data_in, is_data_place}

-- ---- the first block that is in a zone

data-one : (p : Place) → ◌≡◌ {A = ℕ} (cond (is_data_place p) 1 0) (data_count_at p)
data-one places.None = refl
data-one (places.Trimmed address) = refl
data-one (places.At address) = refl

-- whether a place is in the zone and has data
abbrev pub has_data : ℕ → ℕ → Place → Bool
has_data zone_size zone p = lies_in zone_size zone p && is_data_place p

record NextIn (zone_size zone first block : ℕ) (all : List Place) : Type 0 where
  k : ℕ
  block_is : block ≡ first + k
  in_range : k < length all
  blocks : blocks_in zone_size zone first all ≡ block ∷ blocks_in zone_size zone (block + 1) (drop (suc k) all)
  with_data : data_in zone_size zone all ≡ data_count_at (get_or all k places.None) + data_in zone_size zone (drop (suc k) all)

next-in : (zone_size zone first block : ℕ) (all : List Place) → slice_get (blocks_in zone_size zone first all) 0 ≡ Some block → NextIn zone_size zone first block all
next-in zone_size zone first block [] there = absurd (cc)
next-in zone_size zone first block (p ∷ ps) there = by (lies_in zone_size zone p) refl there (next-in zone_size zone (first + 1) block ps)
  where
    by : (b : Bool) → lies_in zone_size zone p ≡ b → slice_get (cond b (first ∷ blocks_in zone_size zone (first + 1) ps) (blocks_in zone_size zone (first + 1) ps)) 0 ≡ Some block
        → (slice_get (blocks_in zone_size zone (first + 1) ps) 0 ≡ Some block → NextIn zone_size zone (first + 1) block ps) → NextIn zone_size zone first block (p ∷ ps)
    by true here there more =
        let same : first ≡ block = cc in
        let one : ◌≡◌ {A = ℕ} (cond (has_data zone_size zone p) 1 0) (data_count_at p) = rw here (data-one p) in
        record {
          k = 0;
          block_is = omega (arith, same);
          in_range = omega arith;
          blocks = rw (here, ← same) refl;
          with_data = omega (arith, one, sum_by-cons (λ (q : Place). cond {A = ℕ} (has_data zone_size zone q) 1 0) p ps);
        }
    by false here there more =
        let rest = more there in
        let one : ◌≡◌ {A = ℕ} (cond (has_data zone_size zone p) 1 0) 0 = rw here refl in
        record {
          k = suc rest.k;
          block_is = omega (arith, rest.block_is);
          in_range = omega (arith, rest.in_range);
          blocks = rw here rest.blocks;
          with_data = omega (arith, one, rest.with_data, sum_by-cons (λ (q : Place). cond {A = ℕ} (has_data zone_size zone q) 1 0) p ps);
        }

-- or there is none
nothing-first : (xs : List ℕ) → slice_get xs 0 ≡ None → xs ≡ []
nothing-first [] e = refl
nothing-first (x ∷ xs) e = absurd (cc)

none-with_data : (zone_size zone first : ℕ) (all : List Place) → blocks_in zone_size zone first all ≡ [] → data_in zone_size zone all ≡ 0
none-with_data zone_size zone first [] none = refl
none-with_data zone_size zone first (p ∷ ps) none = by (lies_in zone_size zone p) refl none (none-with_data zone_size zone (first + 1) ps)
  where
    by : (b : Bool) → lies_in zone_size zone p ≡ b → cond b (first ∷ blocks_in zone_size zone (first + 1) ps) (blocks_in zone_size zone (first + 1) ps) ≡ [] → (blocks_in zone_size zone (first + 1) ps ≡ [] → data_in zone_size zone ps ≡ 0) → data_in zone_size zone (p ∷ ps) ≡ 0
    by true here none rest = absurd (cc)
    by false here none rest =
        let one : ◌≡◌ {A = ℕ} (cond (has_data zone_size zone p) 1 0) 0 = rw here refl in
        omega (arith, one, rest none, sum_by-cons (λ (q : Place). cond {A = ℕ} (has_data zone_size zone q) 1 0) p ps)

-- ---- block after block

-- the blocks of a zone below one are found, and how many of them have data
pub record LiveSoFar (first now : TablesView) (zone : ℕ) (blocks : List ℕ) (with_data from : ℕ) : Type 0 where
  pub same : now ≡ first
  pub within : from ≤ size_of first
  pub blocks_are : blocks ++ blocks_in first.map.zone_size zone from (drop from first.map.places) ≡ blocks_in first.map.zone_size zone 0 first.map.places
  pub data_is : with_data + data_in first.map.zone_size zone (drop from first.map.places) ≡ data_in first.map.zone_size zone first.map.places

-- at the start no block of the zone is found
pub live-none : (tables : TablesView) (zone : ℕ) → LiveSoFar tables tables zone [] 0 0
live-none tables zone = record { same = refl; within = omega arith; blocks_are = refl; data_is = omega arith }

-- the next block of a zone is found, and its data counted
pub record LiveNext (first now : TablesView) (zone : ℕ) (blocks : List ℕ) (with_data from block : ℕ) (place : Place) : Type 0 where
  pub after : from ≤ block
  pub in_range : block < size_of first
  pub few : with_data + data_count_at place ≤ size_of first
  pub more : LiveSoFar first now zone (blocks ++ block ∷ []) (with_data + data_count_at place) (block + 1)

-- the first block that is left in the zone is the next one found
pub live-next : (first now new : TablesView) (zone : ℕ) (blocks : List ℕ) (with_data from block : ℕ) (place : Place) → LiveSoFar first now zone blocks with_data from → Some (block, place) ≡ first_record now.map zone from → new ≡ now → LiveNext first new zone blocks with_data from block place
live-next first now new zone blocks with_data from block place so_far found kept =
    let m = first.map in
    let found' : first_record m zone from ≡ Some (block, place) = ap (λ (t : TablesView). first_record t.map zone from) (sym so_far.same) ∙ sym found in
    let parts = first-parts (λ b. get_or m.places b places.None) (slice_get (blocks_in m.zone_size zone from (drop from m.places)) 0) block place found' in
    let next = next-in m.zone_size zone from block (drop from m.places) parts.0 in
    let beyond : drop (suc next.k) (drop from m.places) ≡ drop (block + 1) m.places = drop-drop (suc next.k) from m.places ∙ ap (λ (n : ℕ). drop n m.places) (omega (arith, next.block_is)) in
    let here : get_or (drop from m.places) next.k places.None ≡ place = get_or-drop from m.places next.k places.None ∙ ap (λ (n : ℕ). get_or m.places n places.None) (sym next.block_is) ∙ sym parts.1 in
    let below : block < length m.places = omega (arith, next.in_range, next.block_is, length-drop from m.places) in
    let total : with_data + data_count_at place + data_in m.zone_size zone (drop (block + 1) m.places) ≡ data_in m.zone_size zone m.places =
    omega (arith, so_far.data_is, next.with_data, ap (data_in m.zone_size zone) beyond, ap data_count_at here) in
    record {
      after = omega (arith, next.block_is);
      in_range = below;
      few = omega (arith, total, count_by-le-length (has_data m.zone_size zone) m.places);
      more = record {
        same = kept ∙ so_far.same;
        within = omega (arith, below);
        blocks_are = append_assoc blocks (block ∷ []) (blocks_in m.zone_size zone (block + 1) (drop (block + 1) m.places))
            ∙ ap (λ (ps : List Place). blocks ++ block ∷ blocks_in m.zone_size zone (block + 1) ps) (sym beyond) ∙ ap (λ (bs : List ℕ). blocks ++ bs) (sym next.blocks) ∙ so_far.blocks_are;
        data_is = total;
      };
    }

-- all blocks of a zone are found, and how many of them have data
pub record LiveAll (first now : TablesView) (zone : ℕ) (blocks : List ℕ) (with_data : ℕ) : Type 0 where
  pub blocks_are : blocks ≡ blocks_in first.map.zone_size zone 0 first.map.places
  pub data_is : with_data ≡ data_in first.map.zone_size zone first.map.places

-- once no block is left in the zone, all of them are found
pub live-end : (first now : TablesView) (zone : ℕ) (blocks : List ℕ) (with_data from : ℕ) → LiveSoFar first now zone blocks with_data from → None ≡ first_record now.map zone from → LiveAll first now zone blocks with_data
live-end first now zone blocks with_data from so_far found =
    let m = first.map in
    let found' : first_record m zone from ≡ None = ap (λ (t : TablesView). first_record t.map zone from) (sym so_far.same) ∙ sym found in
    let none = nothing-first (blocks_in m.zone_size zone from (drop from m.places)) (first-none (λ b. get_or m.places b places.None) (slice_get (blocks_in m.zone_size zone from (drop from m.places)) 0) found') in
    record {
      blocks_are = sym (append-nil blocks) ∙ ap (λ (bs : List ℕ). blocks ++ bs) (sym none) ∙ so_far.blocks_are;
      data_is = omega (arith, so_far.data_is, none-with_data m.zone_size zone from (drop from m.places) none);
    }
