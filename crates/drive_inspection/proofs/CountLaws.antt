-- Live records are counted by their places.
use Rattle.std.proofs.Common.{◌≡◌, ℕ, ◌+◌, ◌<◌, ◌≤◌, List, [], ◌∷◌, ◌++◌, drop, length, Some, None, refl, sym, ap, subst, ◌∙◌, arith}
use Rattle.std.specs.List.{count_by}
use Rattle.std.proofs.lemmas.List.{length-append}
use Rattle.logical_map.specs.Live.{blocks_in, first_record}
use Rattle.logical_map.specs.declared.place.Place.{Place}
use Rattle.logical_map.specs.declared.place.Place.TheVariants as places
use Rattle.zone_choice.specs.Tables.{TablesView, size_of}
use Rattle.remount.specs.Torn.{data_count_at, data_in, is_data_place}
use Rattle.remount.proofs.TornLaws.{LiveSoFar, live-end, live-next, live-none}
use Rattle.drive_inspection.specs.declared.info.LiveCount.{LiveCount}
use Rattle.drive_inspection.specs.Found.{is_trim_place, counting_record}

-- ---- the records of a zone

-- of the records that are met so far these are live, and so many more come
pub record LiveTo (first now : TablesView) (zone : ℕ) (live : LiveCount) (from : ℕ) : Type 0 where
  pub blocks : List ℕ
  pub so_far : LiveSoFar first now zone blocks live.written from
  pub all : live.written + live.trimmed ≡ length blocks
  pub few : length blocks ≤ from

-- at the start no record of a zone is met, and none is counted
pub live-to-none : (tables : TablesView) (zone : ℕ) → LiveTo tables tables zone (record { written = 0; trimmed = 0 }) 0
live-to-none tables zone = record { blocks = []; so_far = live-none tables zone; all = omega arith; few = omega arith }

record Counts (live : LiveCount) (place : Place) : Type 0 where
  written : (counting_record live place).written ≡ live.written + data_count_at place
  all : (counting_record live place).written + (counting_record live place).trimmed ≡ live.written + live.trimmed + 1

record-counts : (live : LiveCount) (place : Place) → Counts live place
record-counts live places.None = record { written = omega arith; all = omega arith }
record-counts live (places.Trimmed address) = record { written = omega arith; all = omega arith }
record-counts live (places.At address) = record { written = refl; all = omega arith }

-- a next live record: its block is below the size, and it is counted with the others
pub record LiveToNext (first now : TablesView) (zone : ℕ) (live : LiveCount) (from block : ℕ) (place : Place) : Type 0 where
  pub after : from ≤ block
  pub in_range : block < size_of first
  pub fits : live.written + live.trimmed + 1 ≤ size_of first
  pub more : LiveTo first now zone (counting_record live place) (block + 1)

-- the first record of a zone from a block on is the next one to be counted
pub live-to-next : (first now new : TablesView) (zone : ℕ) (live : LiveCount) (from block : ℕ) (place : Place) → LiveTo first now zone live from → Some (block, place) ≡ first_record now.map zone from → new ≡ now
    → LiveToNext first new zone live from block place
live-to-next first now new zone live from block place to found kept =
    let next = live-next first now new zone to.blocks live.written from block place to.so_far found kept in
    let counts = record-counts live place in
    record {
      after = next.after;
      in_range = next.in_range;
      fits = omega (arith, to.all, to.few, next.after, next.in_range);
      more = record {
        blocks = to.blocks ++ block ∷ [];
        so_far = subst (λ (w : ℕ). LiveSoFar first new zone (to.blocks ++ block ∷ []) w (block + 1)) (sym counts.written) next.more;
        all = omega (arith, counts.all, to.all, length-append to.blocks (block ∷ []));
        few = omega (arith, to.few, next.after, length-append to.blocks (block ∷ []));
      };
    }

-- a count of all live records of a zone: the ones with data, and all together
pub record LiveInZone (first : TablesView) (zone : ℕ) (live : LiveCount) : Type 0 where
  pub written : live.written ≡ data_in first.map.zone_size zone first.map.places
  pub all : live.written + live.trimmed ≡ length (blocks_in first.map.zone_size zone 0 first.map.places)

-- if no record comes after the counted ones, all live records of the zone are counted
pub live-to-end : (first now : TablesView) (zone : ℕ) (live : LiveCount) (from : ℕ) → LiveTo first now zone live from → None ≡ first_record now.map zone from → LiveInZone first zone live
live-to-end first now zone live from to found =
    let all = live-end first now zone to.blocks live.written from to.so_far found in
    record { written = all.data_is; all = to.all ∙ ap length all.blocks_are }

-- ---- the records of all zones

-- the blocks below a bound are counted: how many have data, and how many are trimmed
pub record LiveBelow (all : List Place) (live : LiveCount) (block : ℕ) : Type 0 where
  pub written : live.written + count_by is_data_place (drop block all) ≡ count_by is_data_place all
  pub trimmed : live.trimmed + count_by is_trim_place (drop block all) ≡ count_by is_trim_place all
  pub few : live.written + live.trimmed ≤ block

-- below block 0 nothing is counted
pub live-below-none : (all : List Place) → LiveBelow all (record { written = 0; trimmed = 0 }) 0
live-below-none all = record { written = omega arith; trimmed = omega arith; few = omega arith }
