-- What a Move of the gathered records leaves of a clean.
use Rattle.std.proofs.Common.{◌≡◌, ℕ, ◌+◌, ◌*◌, ◌<◌, ◌≤◌, Bool, true, cond, List, [], ◌∷◌, map, length, get_or, take, drop, Option, Some, None, refl, sym, ap, ◌∙◌, arith}
use Rattle.std.specs.Prelude.{nat_eq}
use Rattle.std.specs.List.{AllByRecursion, IsDistinct}
use Rattle.std.proofs.lemmas.Bool.{eq-eqb}
use Rattle.std.proofs.lemmas.List.{get_or-take, length-map, length-take}
use Rattle.drive_port.specs.Drive.{DriveState}
use Rattle.drive_port.specs.Contents.{contents}
use Rattle.batch_log.specs.declared.header.Entry.{Entry}
use Rattle.batch_log.specs.Log.{data_count, zero_block}
use Rattle.batch_log.proofs.LentLaws.{data-few}
use Rattle.logical_map.specs.declared.place.Place.{Place}
use Rattle.logical_map.specs.declared.place.Place.TheVariants as places
use Rattle.zone_choice.specs.declared.roles.Filling.{Filling}
use Rattle.zone_choice.specs.declared.roles.Second.TheVariants.{Destination}
use Rattle.zone_choice.specs.Agreement.{Agrees, HoldsFilling, MountedView, mounted_array}
use Rattle.drive_array.specs.ZoneLogs.{drive_logs}
use Rattle.zone_choice.specs.Builder.{placed}
use Rattle.zone_choice.specs.Changes.{next_address, placed_with, told_over}
use Rattle.drive_array.specs.Reserve.{batch_most}
use Rattle.zone_choice.specs.Roles.{grown}
use Rattle.zone_choice.specs.Tables.{size_of}
use Rattle.zone_choice.proofs.AgreementLaws.{extended-same, size-encoded}
use Rattle.drive_array.proofs.WholeLaws.{length-encoded}
use Rattle.zone_choice.proofs.BuilderLaws.{blocks_named}
use Rattle.zone_choice.proofs.ReadLaws.{HoldsPlace, holds_place}
use Rattle.drive_array.proofs.ReserveLaws.{positive-most}
use Rattle.zone_cleaner.specs.Clean.{CleanView, HasRoomFor, IsClean, destination_written, untaken}
use Rattle.zone_cleaner.specs.LiveRecords.{LiveRecord, gathered_entries, gathered_entry, gathered_move, records_in, without_all}
use Rattle.zone_cleaner.proofs.BudgetLaws.{AfterMove, after-move}
use Rattle.zone_cleaner.proofs.CleanLaws.{live-parts}
use Rattle.zone_cleaner.proofs.MoveLaws.{Elsewhere, PlacedAway, elsewhere, length-placed, move-same, placed-away, placed-rest, without-own}
use Rattle.zone_cleaner.proofs.RecordLaws.{AreBetween, SayTheArray, ZerosUnlessData, between, distinct-blocks, length-records_in, live_in, live_in-split, say-the-array}
use Rattle.zone_cleaner.proofs.SealedLaws.{of-second, sealed-apart, second-filling}
use Rattle.zone_cleaner.proofs.StepLaws.{MoveDue}

-- ---- the gathered records say what the array has

place-zeros : (drive : DriveState) (array : List (List ℕ)) (block : ℕ) (p : Place) → HoldsPlace drive array block p → ZerosUnlessData array drive.geometry.block block p
place-zeros drive array block places.None h = h
place-zeros drive array block (places.Trimmed address) h = h
place-zeros drive array block (places.At address) h = tt

-- the gathered records say what the array has
pub gathered-say : (disk : MountedView) (c : CleanView) → Agrees disk → IsClean disk c → SayTheArray (mounted_array disk) disk.drive.geometry.block c.gathered
gathered-say disk c agrees is =
    let m = disk.tables.map in
    rw is.gathers.gathered (say-the-array (mounted_array disk) disk.drive.geometry.block m.zone_size c.victim 0 (take c.cursor m.places) each)
  where
    each : (k : ℕ) → k < length (take c.cursor disk.tables.map.places) → ZerosUnlessData (mounted_array disk) disk.drive.geometry.block (0 + k) (get_or (take c.cursor disk.tables.map.places) k places.None)
    each k lt =
        let all = disk.tables.map.places in
        let below : k < c.cursor = omega (arith, lt, length-take c.cursor all) in
        let same : get_or (take c.cursor all) k places.None ≡ get_or all k places.None = get_or-take c.cursor all k places.None below in
        let spot : 0 + k ≡ k = omega arith in
        rw (spot, same) (place-zeros disk.drive (mounted_array disk) k (get_or all k places.None) (holds_place disk.drive disk.tables k agrees (omega (arith, lt, length-take c.cursor all))))

-- ---- the array stays

-- so their Move leaves the array
pub told_same : (disk : MountedView) (c : CleanView) → Agrees disk → IsClean disk c → told_over disk.drive.geometry.block (gathered_move (size_of disk.tables) disk.tables.next c.victim c.gathered) (mounted_array disk) ≡ mounted_array disk
told_same disk c agrees is =
    let block = disk.drive.geometry.block in
    let array = mounted_array disk in
    let long : length array ≡ size_of disk.tables = length-encoded disk.drive disk.tables.given ∙ sym (size-encoded disk agrees) in
    rw (extended-same (zero_block block) (size_of disk.tables) array long) (move-same array block disk.tables.next c.gathered (gathered-say disk c agrees is))

-- ---- where the records are

-- their entries name blocks below a bound
pub entries-below : (rs : List LiveRecord) (low high : ℕ) → AreBetween low high rs → AllByRecursion (λ (e : Entry). e.block < high) (gathered_entries rs)
entries-below [] low high all = tt
entries-below (r ∷ rs) low high all = (one r.block r.content all.0.1, entries-below rs low high all.1)
  where
    one : (block : ℕ) (content : Option (List ℕ)) → block < high → (gathered_entry block content).block < high
    one block None lt = lt
    one block (Some bytes) lt = lt

pub named-blocks : (rs : List LiveRecord) → blocks_named (gathered_entries rs) ≡ map (λ (r : LiveRecord). r.block) rs
named-blocks [] = refl
named-blocks (r ∷ rs) = rw (one r.block r.content, named-blocks rs) refl
  where
    one : (block : ℕ) (content : Option (List ℕ)) → (gathered_entry block content).block ≡ block
    one block None = refl
    one block (Some bytes) = refl

-- which is where the clean has come to
pub gathered-below : (disk : MountedView) (c : CleanView) → IsClean disk c → AreBetween 0 c.cursor c.gathered
gathered-below disk c is = let m = disk.tables.map in rw is.gathers.gathered (between (mounted_array disk) m.zone_size c.victim 0 c.cursor (take c.cursor m.places) (omega (arith, length-take c.cursor m.places)))

-- each block once
pub gathered-distinct : (disk : MountedView) (c : CleanView) → IsClean disk c → IsDistinct nat_eq (blocks_named (gathered_entries c.gathered))
gathered-distinct disk c is =
    let m = disk.tables.map in
    rw (named-blocks c.gathered, is.gathers.gathered) (distinct-blocks (mounted_array disk) m.zone_size c.victim 0 (take c.cursor m.places))

-- ---- the clean after it

-- a zone has n blocks more
pub grown-self : (f : Filling) (zone n : ℕ) → f.zone ≡ zone → grown zone n f ≡ record { zone = f.zone; written = f.written + n; may_open = true }
grown-self f zone n e = ap (λ (b : Bool). cond b (record { zone = f.zone; written = f.written + n; may_open = true }) f) (eq-eqb f.zone zone e)

-- no more data than records
pub data-entries : (rs : List LiveRecord) → data_count (gathered_entries rs) ≤ length rs
data-entries rs = omega (arith, data-few (gathered_entries rs), length-map rs (λ (r : LiveRecord). gathered_entry r.block r.content))

-- the batch takes no more blocks than the budget has for it
pub record FitsMove (disk : MountedView) (c : CleanView) (destination : Filling) : Type 0 where
  pub room : destination.written + (1 + data_count (gathered_entries c.gathered)) + 2 ≤ disk.drive.geometry.capacity
  pub after : AfterMove disk.drive.geometry.capacity (batch_most disk.drive.geometry) destination.written (destination.written + (1 + data_count (gathered_entries c.gathered))) (untaken disk.tables c) (length c.gathered)

-- the Move fits the destination
pub fits-move : (disk : MountedView) (c : CleanView) → Agrees disk → (is : IsClean disk c) → MoveDue disk (batch_most disk.drive.geometry) c → FitsMove disk c is.destination
fits-move disk c agrees is due =
    let g = disk.drive.geometry in
    let k = batch_most g in
    let d = data_count (gathered_entries c.gathered) in
    let moved : destination_written disk.tables.roles.second ≡ is.destination.written = ap destination_written is.second in
    let room : HasRoomFor g.capacity k is.destination.written (untaken disk.tables c + length c.gathered) = rw (← live-parts disk c is) is.room in
    let after = after-move g.capacity k is.destination.written (is.destination.written + (1 + d)) (untaken disk.tables c) (length c.gathered) d (positive-most g agrees.geometry) is.gathers.few (data-entries c.gathered) due.whole (λ some. due.some (omega (arith, moved, some))) refl room in
    record { room = omega (arith, after.room); after = after }

-- where the gathered blocks are
pub record MovedPlaces (disk : MountedView) (c : CleanView) (destination : Filling) (new : List Place) : Type 0 where
  pub long : length new ≡ size_of disk.tables
  pub taken : records_in (mounted_array disk) disk.tables.map.zone_size c.victim 0 (take c.cursor new) ≡ []
  pub rest : drop c.cursor new ≡ drop c.cursor disk.tables.map.places
  pub live_is : live_in disk.tables.map.zone_size c.victim new ≡ untaken disk.tables c
  pub away : Elsewhere disk.tables.map.zone_size c.victim (next_address disk.drive destination.zone) (next_address disk.drive destination.zone + (1 + data_count (gathered_entries c.gathered)))

-- where the blocks are after it
pub moved_places : (disk : MountedView) (c : CleanView) (new : List Place) → Agrees disk → (is : IsClean disk c) → MoveDue disk (batch_most disk.drive.geometry) c
    → new ≡ placed_with disk is.destination.zone (gathered_move (size_of disk.tables) disk.tables.next c.victim c.gathered) → MovedPlaces disk c is.destination new
moved_places disk c new agrees is due new-is =
    let m = disk.tables.map in
    let g = disk.drive.geometry in
    let f = is.destination in
    let es = gathered_entries c.gathered in
    let header = next_address disk.drive f.zone in
    let count = 1 + data_count es in
    let filled = of-second (HoldsFilling g.capacity (contents disk.drive.zones) (drive_logs disk.drive)) disk.tables.roles (Destination f) is.second agrees.roles.fillings_are in
    let filling = second-filling disk.tables.roles (Destination f) is.second in
    let apart = sealed-apart disk.tables.roles c.victim f.zone is.victim filling in
    let fits = fits-move disk c agrees is due in
    let at : header ≡ f.zone * m.zone_size + f.written = rw (agrees.zone_size, filled.written) refl in
    let short : f.written + count ≤ m.zone_size = omega (arith, fits.room, agrees.geometry.capacity, agrees.zone_size) in
    let away = elsewhere m.zone_size c.victim f.zone f.written count (λ e. apart (sym e)) short in
    let end : f.zone * m.zone_size + (f.written + count) ≡ header + count = omega (arith, at) in
    let placed-is : new ≡ placed header (header + 1) es m.places = new-is ∙ ap (placed header (header + 1) es) (extended-same places.None (size_of disk.tables) m.places refl) in
    let moved : PlacedAway (mounted_array disk) m.zone_size c.victim c.cursor es m.places (placed header (header + 1) es m.places) =
    placed-away (mounted_array disk) m.zone_size c.victim c.cursor header (header + 1) (header + count) es m.places (gathered-distinct disk c is) (rw (← at, end) at away) (omega arith) (omega arith) (omega arith) in
    let none : records_in (mounted_array disk) m.zone_size c.victim 0 (take c.cursor new) ≡ [] =
    rw placed-is (moved.taken ∙ ap (λ (rs : List LiveRecord). without_all es rs) (sym is.gathers.gathered) ∙ without-own c.gathered) in
    let rest : drop c.cursor new ≡ drop c.cursor m.places = rw placed-is (placed-rest c.cursor header (header + 1) es m.places (entries-below c.gathered 0 c.cursor (gathered-below disk c is))) in
    record {
      long = ap length placed-is ∙ length-placed header (header + 1) es m.places;
      taken = none;
      rest = rest;
      away = rw (← at, end) at away;
      live_is = omega (arith, live_in-split m.zone_size c.victim c.cursor new, ap length none, length-records_in (mounted_array disk) m.zone_size c.victim 0 (take c.cursor new), ap (live_in m.zone_size c.victim) rest);
    }
