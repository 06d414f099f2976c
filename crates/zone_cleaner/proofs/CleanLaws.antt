-- The invariant of a clean lasts.
use Rattle.std.proofs.Common.{◌≡◌, ℕ, ◌+◌, ◌<◌, ◌≤◌, List, [], ◌∷◌, ◌++◌, length, get_or, take, Option, Some, None, refl, sym, ap, ◌∙◌, arith}
use Rattle.std.specs.List.{slice_get}
use Rattle.std.specs.Option.{option_map}
use Rattle.std.proofs.lemmas.List.{length-append}
use Rattle.zone_states.specs.declared.geometry.Geometry.{Geometry}
use Rattle.logical_map.specs.Live.{blocks_in_zone, first_record, live}
use Rattle.logical_map.proofs.Parts.{first-none, first-parts}
use Rattle.logical_map.specs.declared.place.Place.{Place}
use Rattle.logical_map.specs.declared.place.Place.TheVariants as places
use Rattle.zone_choice.specs.Agreement.{Agrees, MountedView, mounted_array}
use Rattle.drive_array.specs.ZoneLogs.{drive_logs}
use Rattle.zone_choice.specs.Changes.{KeepsArray}
use Rattle.drive_array.specs.Reserve.{batch_most}
use Rattle.drive_array.specs.Spare.{HasSpare}
use Rattle.zone_choice.specs.declared.roles.Second.TheVariants.{Destination, Next}
use Rattle.zone_choice.specs.Roles.{closed, second_with}
use Rattle.zone_choice.proofs.CommandLaws.{filling-in_range}
use Rattle.zone_choice.specs.Tables.{size_of}
use Rattle.zone_cleaner.specs.Clean.{CleanView, IsClean, destination_written, turns_left, untaken}
use Rattle.zone_cleaner.specs.LiveRecords.{LiveRecord, live_content}
use Rattle.zone_choice.specs.declared.roles.Filling.{Filling}
use Rattle.zone_choice.specs.declared.roles.Second.{Second}
use Rattle.zone_cleaner.specs.Turns.{with_record}
use Rattle.zone_cleaner.proofs.HistoryLaws.{moves_have_spare}
use Rattle.zone_cleaner.proofs.UndoLaws.{undo-kept}
use Rattle.zone_cleaner.proofs.RecordLaws.{length-records_in, live_in-split, takes-next, takes-none}
use Rattle.zone_cleaner.proofs.SealedLaws.{sealed-apart, second-filling, zone-logs}

-- ---- nothing that a clean depends on changes

same-zones : (before after : MountedView) → Agrees before → KeepsArray before after → after.tables.map.zone_size ≡ before.tables.map.zone_size
same-zones before after agrees kept = kept.agrees.zone_size ∙ ap (λ (g : Geometry). g.size) kept.geometry ∙ sym agrees.zone_size

destination_zone : Option Second → ℕ
destination_zone (Some (Destination filling)) = filling.zone
destination_zone second = 0

-- the destination is the same zone, with as many blocks written
pub record KeptDestination (second : Option Second) (f : Filling) : Type 0 where
  pub filling : Filling
  pub is : second ≡ Some (Destination filling)
  pub zone : filling.zone ≡ f.zone
  pub written : filling.written ≡ f.written

kept-destination : (second : Option Second) (f : Filling) → option_map (second_with closed) second ≡ Some (Destination (closed f)) → KeptDestination second f
unfolding destination_zone
kept-destination None f e = absurd (cc)
kept-destination (Some (Next g)) f e = absurd (cc)
kept-destination (Some (Destination g)) f e = record { filling = g; is = refl; zone = ap destination_zone e; written = ap destination_written e }

-- a clean continues over a drive that keeps its array
pub clean_kept : (before after : MountedView) (c : CleanView) → Agrees before → KeepsArray before after → IsClean before c → IsClean after c
clean_kept before after c agrees kept is =
    let zones = same-zones before after agrees kept in
    let same = kept-destination after.tables.roles.second is.destination (kept.second ∙ ap (option_map (second_with closed)) is.second) in
    record {
      destination = same.filling;
      second = same.is;
      victim = kept.sealed c.victim is.victim;
      gathers = record {
        within = rw kept.places is.gathers.within;
        few = rw kept.geometry is.gathers.few;
        gathered = rw (kept.array, zones, kept.places) is.gathers.gathered;
      };
      room = rw (kept.geometry, zones, kept.places, same.written) is.room;
      moves = rw (kept.logs, kept.geometry, kept.given, same.zone) is.moves;
      undo = rw same.zone (undo-kept before after c is.destination.zone zones kept is.undo);
    }

-- the same turns are left
pub turns_kept : (before after : MountedView) (c : CleanView) (most : ℕ) → Agrees before → KeepsArray before after → IsClean before c → turns_left most after.tables (Some c) ≡ turns_left most before.tables (Some c)
turns_kept before after c most agrees kept is =
    let zones = same-zones before after agrees kept in
    let same = kept-destination after.tables.roles.second is.destination (kept.second ∙ ap (option_map (second_with closed)) is.second) in
    let moved : destination_written after.tables.roles.second ≡ destination_written before.tables.roles.second = ap destination_written same.is ∙ same.written ∙ sym (ap destination_written is.second) in
    rw (zones, kept.places, moved) refl

-- ---- a stop

-- at each moment of a clean the destination is vacant or half clean
pub clean_spare : (disk : MountedView) (c : CleanView) → Agrees disk → IsClean disk c → HasSpare disk.drive.geometry.block disk.tables.given (drive_logs disk.drive)
clean_spare disk c agrees is =
    let f = is.destination in
    let filling = second-filling disk.tables.roles (Destination f) is.second in
    let apart = sealed-apart disk.tables.roles c.victim f.zone is.victim filling in
    let below : f.zone < length (drive_logs disk.drive) = omega (arith, filling-in_range disk.drive disk.tables f.zone agrees filling, zone-logs disk.drive) in
    moves_have_spare disk.drive.geometry.block disk.tables.given c.victim f.zone (drive_logs disk.drive) apart below is.moves

-- ---- a record is gathered

-- of the gathered records no more than one Move takes, and one fewer is left
pub record GatherGives (disk : MountedView) (c new : CleanView) : Type 0 where
  pub clean : IsClean disk new
  pub fewer : untaken disk.tables new + 1 ≡ untaken disk.tables c

-- a record was gathered
pub gather_gives : (disk : MountedView) (c : CleanView) (block : ℕ) (place : Place) → IsClean disk c → first_record disk.tables.map c.victim c.cursor ≡ Some (block, place) → length c.gathered < batch_most disk.drive.geometry
    → GatherGives disk c (with_record c block (live_content (mounted_array disk) block place))
gather_gives disk c block place is found few =
    let m = disk.tables.map in
    let parts = first-parts (λ b. get_or m.places b places.None) (slice_get (blocks_in_zone m c.victim c.cursor) 0) block place found in
    let took = takes-next (mounted_array disk) m.zone_size c.victim c.cursor block m.places is.gathers.within parts.0 in
    let one : LiveRecord = record { block = block; content = live_content (mounted_array disk) block place } in
    record {
      clean = record {
        destination = is.destination;
        second = is.second;
        victim = is.victim;
        gathers = record {
          within = omega (arith, took.below);
          few = omega (arith, few, length-append c.gathered (one ∷ []));
          gathered = ap (λ (rs : List LiveRecord). rs ++ one ∷ []) is.gathers.gathered ∙ rw parts.1 (sym took.more);
        };
        room = is.room;
        moves = is.moves;
        undo = record { all = is.undo.all; each = is.undo.each; away = is.undo.away };
      };
      fewer = took.rest;
    }

-- no record is left to take
pub untaken_none : (disk : MountedView) (c : CleanView) → first_record disk.tables.map c.victim c.cursor ≡ None → untaken disk.tables c ≡ 0
untaken_none disk c none =
    let m = disk.tables.map in
    takes-none m.zone_size c.victim c.cursor m.places (first-none (λ b. get_or m.places b places.None) (slice_get (blocks_in_zone m c.victim c.cursor) 0) none)

-- the gathered records, and those not yet taken, are the live records of the victim
pub live-parts : (disk : MountedView) (c : CleanView) → IsClean disk c → live disk.tables.map c.victim ≡ untaken disk.tables c + length c.gathered
live-parts disk c is =
    let m = disk.tables.map in
    omega (arith, ap length is.gathers.gathered, length-records_in (mounted_array disk) m.zone_size c.victim 0 (take c.cursor m.places), live_in-split m.zone_size c.victim c.cursor m.places)

-- the next record is past the cursor
pub gather-next : (disk : MountedView) (c : CleanView) (block : ℕ) (place : Place) → IsClean disk c → first_record disk.tables.map c.victim c.cursor ≡ Some (block, place)
    → (block < size_of disk.tables) × (c.cursor ≤ block) × (place ≡ get_or disk.tables.map.places block places.None)
gather-next disk c block place is found =
    let m = disk.tables.map in
    let parts = first-parts (λ b. get_or m.places b places.None) (slice_get (blocks_in_zone m c.victim c.cursor) 0) block place found in
    let took = takes-next (mounted_array disk) m.zone_size c.victim c.cursor block m.places is.gathers.within parts.0 in
    (took.below, took.after, parts.1)
