-- When a Move may be sent, by the numbers of the tables and of the clean alone.
use Rattle.std.proofs.Common.{◌≡◌, ◌≢◌, ℕ, ◌+◌, ◌<◌, ◌≤◌, ◌^◌, ltb, Bool, true, false, ◌&&◌, List, [], ◌∷◌, ◌++◌, map, length, get_or, take, Option, Some, None, refl, sym, subst, arith}
use Rattle.std.specs.Prelude.{nat_eq}
use Rattle.std.specs.List.{AllByRecursion, IsDistinct, concat, list_all}
use Rattle.std.specs.Option.{option_map}
use Rattle.std.proofs.lemmas.Bool.{and_parts, and_from, lt-ltb, ltb-true}
use Rattle.std.proofs.lemmas.List.{get_or-take, length-map, length-take}
use Rattle.batch_log.specs.declared.header.Entry.{Entry}
use Rattle.batch_log.specs.declared.header.Kind.TheVariants.{Host, Move}
use Rattle.batch_log.specs.Header.{IsHeading, IsSize, entry_room, header_block}
use Rattle.batch_log.specs.Log.{batch_size}
use Rattle.drive_array.proofs.AllLaws.{all-weaker}
use Rattle.logical_map.specs.Live.{lies_in}
use Rattle.logical_map.specs.Places.{ArePlacedReady, IsReady}
use Rattle.logical_map.specs.declared.place.Place.{Place}
use Rattle.logical_map.specs.declared.place.Place.TheVariants as places
use Rattle.zone_choice.specs.declared.roles.Filling.{Filling}
use Rattle.zone_choice.specs.declared.roles.Second.{Second}
use Rattle.zone_choice.specs.declared.roles.Second.TheVariants.{Destination}
use Rattle.zone_choice.specs.Agreement.{Agrees, MountedView, mounted_array}
use Rattle.zone_choice.specs.Builder.{BuilderView, IsBuilt}
use Rattle.zone_choice.specs.Changes.{built_for}
use Rattle.zone_choice.specs.Roles.{AreApart, Differ, RolesView, filling_list, filling_of, fillings}
use Rattle.zone_choice.specs.Sane.{IsSane, MayPlace}
use Rattle.zone_choice.specs.Tables.{TablesView, size_of}
use Rattle.zone_cleaner.specs.Clean.{CleanView, HasRoomForMove, IsClean, has_place, is_placed}
use Rattle.zone_cleaner.specs.Gathered.{AreOfLength}
use Rattle.zone_cleaner.specs.LiveRecords.{LiveRecord, gathered_data, gathered_entries, gathered_entry, gathered_move}
use Rattle.zone_cleaner.proofs.BuildLaws.{entries-all, move_built, records-all}
use Rattle.zone_cleaner.proofs.CarryLaws.{data-entries, named-blocks}
use Rattle.zone_cleaner.proofs.CleanLaws.{live-parts}
use Rattle.zone_cleaner.proofs.SealedLaws.{second-filling}

-- ---- the destination

-- while drive and clean agree, it has room
pub has-room : (disk : MountedView) (c : CleanView) → Agrees disk → (is : IsClean disk c) → HasRoomForMove disk.drive.geometry disk.tables c is.destination
has-room disk c agrees is = record {
  second = is.second;
  some = agrees.reserve.0;
  few = is.gathers.few;
  room = omega (arith, is.room, live-parts disk c is);
}

-- the other zone that is being filled is another one
room-in : (capacity : ℕ) (roles : RolesView) (f : Filling) (n : ℕ) → roles.second ≡ Some (Destination f) → Differ roles.host roles.second → f.written + n ≤ capacity → AllByRecursion (λ (g : Filling). g.zone ≡ f.zone → g.written + n ≤ capacity) (fillings roles)
room-in capacity roles f n second apart fits =
    subst (λ (s : Option Second). Differ roles.host s → AllByRecursion (λ (g : Filling). g.zone ≡ f.zone → g.written + n ≤ capacity) (filling_list roles.host ++ filling_list (option_map filling_of s))) (sym second) (at roles.host) apart
  where
    at : (host : Option Filling) → Differ host (Some (Destination f)) → AllByRecursion (λ (g : Filling). g.zone ≡ f.zone → g.written + n ≤ capacity) (filling_list host ++ f ∷ [])
    at None apart = (λ same. fits, tt)
    at (Some h) apart = (λ same. absurd (apart same), (λ same. fits, tt))

-- ---- places

both : (a b : Bool) → (a && b) ≡ true → (a ≡ true) × (b ≡ true)
both true b e = (refl, e)
both false b e = absurd (cc)

all-true : (test : Entry → Bool) (es : List Entry) → list_all test es ≡ true → AllByRecursion (λ (e : Entry). test e ≡ true) es
all-true test [] all = tt
all-true test (e ∷ es) all = let parts = both (test e) (list_all test es) all in (parts.0, all-true test es parts.1)

true-all : (test : Entry → Bool) (es : List Entry) → AllByRecursion (λ (e : Entry). test e ≡ true) es → list_all test es ≡ true
true-all test [] all = refl
true-all test (e ∷ es) all = and_from (test e) (list_all test es) all.0 (true-all test es all.1)

placed-some : (place : Place) → is_placed place ≡ true → place ≢ places.None
placed-some places.None e = absurd (cc)
placed-some (places.Trimmed address) e = λ same. cc
placed-some (places.At address) e = λ same. cc

lies-placed : (size zone : ℕ) (place : Place) → lies_in size zone place ≡ true → is_placed place ≡ true
lies-placed size zone places.None e = absurd (cc)
lies-placed size zone (places.Trimmed address) e = refl
lies-placed size zone (places.At address) e = refl

-- while drive and clean agree, each block that was gathered has a place
pub gathered-placed : (disk : MountedView) (c : CleanView) → IsClean disk c → list_all (λ (e : Entry). has_place disk.tables e.block) (gathered_entries c.gathered) ≡ true
gathered-placed disk c is =
    let m = disk.tables.map in
    true-all (λ (e : Entry). has_place disk.tables e.block) (gathered_entries c.gathered)
    (entries-all (λ block. has_place disk.tables block ≡ true) c.gathered (rw is.gathers.gathered (records-all (λ block. has_place disk.tables block ≡ true) (mounted_array disk) m.zone_size c.victim 0 (take c.cursor m.places) each)))
  where
    each : (k : ℕ) → k < length (take c.cursor disk.tables.map.places) → lies_in disk.tables.map.zone_size c.victim (get_or (take c.cursor disk.tables.map.places) k places.None) ≡ true → has_place disk.tables (0 + k) ≡ true
    each k lt lies =
        let all = disk.tables.map.places in
        let same : get_or (take c.cursor all) k places.None ≡ get_or all k places.None = get_or-take c.cursor all k places.None (omega (arith, lt, length-take c.cursor all)) in
        let spot : 0 + k ≡ k = omega arith in
        rw spot (and_from (ltb k (length all)) (is_placed (get_or all k places.None)) (lt-ltb k (length all) (omega (arith, lt, length-take c.cursor all))) (lies-placed disk.tables.map.zone_size c.victim (get_or all k places.None) (rw same at lies)))

-- ---- the Move

-- the Move of records has a heading
pub move-says : (block size next victim : ℕ) (rs : List LiveRecord) → length rs ≤ entry_room block → next < 2 ^ 64 → victim < 2 ^ 32 → IsSize size → AllByRecursion (λ (r : LiveRecord). r.block + 1 < 2 ^ 32) rs
    → IsDistinct nat_eq (map (λ (r : LiveRecord). r.block) rs) → IsHeading block (gathered_move size next victim rs).heading
move-says block size next victim rs few short source sized below distinct = record {
  room = omega (arith, few, length-map rs (λ (r : LiveRecord). gathered_entry r.block r.content));
  sequence = short;
  source = source;
  host = λ e. absurd (let bad : Move ≡ Host = e in cc);
  size = sized;
  blocks = entries-all (λ block. block < 2 ^ 63) rs (all-weaker (λ (r : LiveRecord). r.block + 1 < 2 ^ 32) (λ (r : LiveRecord). r.block < 2 ^ 63) rs (λ r lt. omega (arith, lt)) below);
  distinct = rw (named-blocks rs) distinct;
}

-- what a Move rests on whatever the Reads returned
pub record CanCarry (disk : MountedView) (c : CleanView) (f : Filling) : Type 0 where
  pub sane : IsSane disk
  pub apart : AreApart disk.tables.roles
  pub room : HasRoomForMove disk.drive.geometry disk.tables c f
  pub victim : c.victim < 2 ^ 32
  pub next : disk.tables.next < 2 ^ 63
  pub below : AllByRecursion (λ (r : LiveRecord). r.block + 1 < 2 ^ 32) c.gathered
  pub distinct : IsDistinct nat_eq (map (λ (r : LiveRecord). r.block) c.gathered)
  pub ready : ArePlacedReady disk.tables.map
  pub placed : list_all (λ (e : Entry). has_place disk.tables e.block) (gathered_entries c.gathered) ≡ true

-- it may be sent
pub move-may : (disk : MountedView) (c : CleanView) (f : Filling) → CanCarry disk c f → MayPlace disk f.zone (gathered_move (size_of disk.tables) disk.tables.next c.victim c.gathered)
move-may disk c f can =
    let g = disk.drive.geometry in
    let es = gathered_entries c.gathered in
    let placed = all-true (λ (e : Entry). has_place disk.tables e.block) es can.placed in
    record {
      sane = can.sane;
      filling = second-filling disk.tables.roles (Destination f) can.room.second;
      heading = move-says g.block (size_of disk.tables) disk.tables.next c.victim c.gathered (omega (arith, can.room.few)) (omega (arith, can.next)) can.victim (can.room.some, can.sane.short) can.below can.distinct;
      grows = omega arith;
      short = can.sane.short;
      few = omega (arith, can.room.few, data-entries c.gathered, can.sane.geometry.transfer);
      room = room-in g.capacity disk.tables.roles f (batch_size (gathered_move (size_of disk.tables) disk.tables.next c.victim c.gathered)) can.room.second can.apart.differ (omega (arith, can.room.room, data-entries c.gathered));
      next = can.next;
      in_range = all-weaker (λ (e : Entry). has_place disk.tables e.block ≡ true) (λ (e : Entry). e.block < size_of disk.tables) es (λ e has. below e.block (both (ltb e.block (size_of disk.tables)) (is_placed (get_or disk.tables.map.places e.block places.None)) has).0) placed;
      ready = all-weaker (λ (e : Entry). has_place disk.tables e.block ≡ true) (λ (e : Entry). IsReady disk.tables.map e.block) es (λ e has. can.ready e.block (placed-some _ (both (ltb e.block (size_of disk.tables)) (is_placed (get_or disk.tables.map.places e.block places.None)) has).1)) placed;
    }
  where
    below : (block : ℕ) → ltb block (size_of disk.tables) ≡ true → block < size_of disk.tables
    below block e = ltb-true block (size_of disk.tables) e

-- it was built, and may be sent
pub record CarryMay (disk : MountedView) (zone : ℕ) (builder : BuilderView) : Type 0 where
  pub built_is : IsBuilt disk.drive.geometry.block builder
  pub may : MayPlace disk zone (built_for disk builder)

pub carry-may : (disk : MountedView) (c : CleanView) (f : Filling) (builder : BuilderView) → CanCarry disk c f → AreOfLength disk.drive.geometry.block (gathered_data c.gathered)
    → builder.heading ≡ (gathered_move (size_of disk.tables) disk.tables.next c.victim c.gathered).heading → builder.bytes ≡ header_block disk.drive.geometry.block builder.heading ++ concat (gathered_data c.gathered) → CarryMay disk f.zone builder
carry-may disk c f builder can whole heading bytes =
    let may = move-may disk c f can in
    let made = move_built disk c builder can.sane.geometry may.heading whole heading bytes in
    record { built_is = made.is; may = rw made.batch may }

-- a block with a place is the disk's
pub placed-inside : (tables : TablesView) (es : List Entry) → list_all (λ (e : Entry). has_place tables e.block) es ≡ true → AllByRecursion (λ (e : Entry). e.block < size_of tables) es
placed-inside tables [] all = tt
placed-inside tables (e ∷ es) all =
    let parts = and_parts (has_place tables e.block) (list_all (λ (x : Entry). has_place tables x.block) es) all in
    let here = and_parts (ltb e.block (size_of tables)) (is_placed (get_or tables.map.places e.block places.None)) parts.0 in
    (ltb-true e.block (size_of tables) here.0, placed-inside tables es parts.1)
