-- A Move is done: the clean continues, with fewer turns left.
use Rattle.std.proofs.Common.{◌≡◌, ℕ, ◌+◌, ◌<◌, max, true, List, drop, take, length, get_or, Some, refl, sym, ap, ◌∙◌, arith}
use Rattle.std.specs.Int.{div_ceil}
use Rattle.std.specs.Option.{option_map}
use Rattle.zone_states.specs.declared.geometry.Geometry.{Geometry}
use Rattle.batch_log.specs.Log.{Batch, batch_size, data_count}
use Rattle.logical_map.specs.declared.place.Place.TheVariants as places
use Rattle.std.specs.List.{AllByRecursion}
use Rattle.std.proofs.lemmas.List.{get_or-take, length-take}
use Rattle.zone_choice.specs.declared.roles.Filling.{Filling}
use Rattle.zone_choice.specs.declared.roles.Second.TheVariants.{Destination}
use Rattle.zone_choice.specs.Agreement.{Agrees, MountedView, mounted_array}
use Rattle.drive_array.specs.ZoneLogs.{drive_logs, encoded_array}
use Rattle.zone_choice.specs.Changes.{Places, next_address}
use Rattle.drive_array.specs.Records.{append_log, without}
use Rattle.zone_choice.specs.Builder.{placed as placed_entries}
use Rattle.drive_array.specs.Reserve.{batch_most}
use Rattle.zone_choice.specs.Roles.{RolesView, grown, second_with}
use Rattle.drive_array.specs.Sizes.{array_of, map_of}
use Rattle.zone_choice.specs.Tables.{size_of}
use Rattle.zone_choice.proofs.AgreementLaws.{extended-same, size-encoded}
use Rattle.zone_choice.proofs.CommandLaws.{filling-in_range}
use Rattle.zone_cleaner.specs.Clean.{CleanView, IsClean, destination_written, is_in, place_among, places_without, turns_left, moves_due, untaken}
use Rattle.zone_cleaner.specs.LiveRecords.{LiveRecord, gathered_entries, gathered_move}
use Rattle.zone_cleaner.specs.Turns.{MovesRecords, after_move}
use Rattle.zone_cleaner.proofs.CarryLaws.{fits-move, grown-self, moved_places, told_same}
use Rattle.zone_cleaner.proofs.CleanLaws.{live-parts}
use Rattle.zone_cleaner.proofs.KindLaws.{move-trims}
use Rattle.zone_cleaner.proofs.OldLaws.{other-without, own-without}
use Rattle.zone_cleaner.proofs.UndoLaws.{MoveBeside, entries-below, lies-one, records-lie, undo-move}
use Rattle.zone_cleaner.proofs.HistoryLaws.{moves-more}
use Rattle.zone_cleaner.proofs.RecordLaws.{live_in}
use Rattle.zone_cleaner.proofs.SealedLaws.{alone-own, sealed-alone, sealed-apart, sealed-holds, sealed-in_range, second-filling, zone-logs}
use Rattle.zone_cleaner.proofs.StepLaws.{MoveDue}

-- what a Move that is done gives
pub record MoveGives (before after : MountedView) (c : CleanView) : Type 0 where
  pub done : MovesRecords before c after
  pub clean : IsClean after (after_move before.tables c)
  pub fewer : turns_left (batch_most before.drive.geometry) after.tables (Some (after_move before.tables c)) < turns_left (batch_most before.drive.geometry) before.tables (Some c)

-- the logs encode the array, before and after
pub mounted-encoded : (disk : MountedView) → array_of disk.drive.geometry.block disk.tables.given (drive_logs disk.drive) ≡ mounted_array disk
unfolding encoded_array
mounted-encoded disk = refl

-- fewer Moves are left, and as many records
turns-less : (k u u' w w' a a' l l' g : ℕ) → u' ≡ u → l' ≡ u → l ≡ u + g → a ≡ w → a' ≡ w' → max (moves_due w') (div_ceil u k) < max (moves_due w) (div_ceil (u + g) k)
    → u' + max (moves_due a') (div_ceil l' k) + 1 < u + max (moves_due a) (div_ceil l k) + 1
turns-less k u u' w w' a a' l l' g left now parts was is fewer = rw (left, now, parts, was, is) (omega (arith, fewer))

-- a Move keeps the array, and moves the records
pub move_gives : (before after : MountedView) (c : CleanView) → Agrees before → (is : IsClean before c) → MoveDue before (batch_most before.drive.geometry) c
    → Places before after is.destination.zone (gathered_move (size_of before.tables) before.tables.next c.victim c.gathered) → MoveGives before after c
move_gives before after c agrees is due placed =
    let g = before.drive.geometry in
    let f = is.destination in
    let logs = drive_logs before.drive in
    let given = before.tables.given in
    let size = size_of before.tables in
    let b = gathered_move size before.tables.next c.victim c.gathered in
    let filling = second-filling before.tables.roles (Destination f) is.second in
    let apart = sealed-apart before.tables.roles c.victim f.zone is.victim filling in
    let below : f.zone < length logs = omega (arith, filling-in_range before.drive before.tables f.zone agrees filling, zone-logs before.drive) in
    let below' : c.victim < length logs = omega (arith, sealed-in_range before c.victim agrees is.victim, zone-logs before.drive) in
    let same : mounted_array after ≡ mounted_array before = placed.array ∙ told_same before c agrees is in
    let after_array : array_of g.block given (append_log logs f.zone b) ≡ mounted_array after = rw (← placed.logs, ← placed.geometry, ← placed.given) (mounted-encoded after) in
    let moved = moved_places before c after.tables.map.places agrees is due placed.places in
    let fits = fits-move before c agrees is due in
    let zones : after.tables.map.zone_size ≡ before.tables.map.zone_size = placed.agrees.zone_size ∙ ap (λ (x : Geometry). x.size) placed.geometry ∙ sym agrees.zone_size in
    let second : after.tables.roles.second ≡ Some (Destination (record { zone = f.zone; written = f.written + batch_size b; may_open = true })) =
    ap (λ (r : RolesView). r.second) placed.roles ∙ ap (option_map (second_with (grown f.zone (batch_size b)))) (alone-own g before.tables.roles f is.second) ∙ ap (λ (x : Filling). Some (Destination x)) (grown-self f f.zone (batch_size b) refl) in
    let count : batch_size b ≡ 1 + data_count (gathered_entries c.gathered) = omega arith in
    let now : live_in after.tables.map.zone_size c.victim after.tables.map.places ≡ untaken before.tables c = ap (λ (z : ℕ). live_in z c.victim after.tables.map.places) zones ∙ moved.live_is in
    let left : untaken after.tables (after_move before.tables c) ≡ untaken before.tables c = ap (λ (z : ℕ). live_in z c.victim (drop c.cursor after.tables.map.places)) zones ∙ ap (live_in before.tables.map.zone_size c.victim) moved.rest in
    let logs_same : places_without after f.zone ≡ places_without before f.zone =
    ap (λ (x : Geometry). map_of x.size after.tables.given (without (drive_logs after.drive) f.zone)) placed.geometry
    ∙ ap (λ (n : ℕ). map_of g.size n (without (drive_logs after.drive) f.zone)) placed.given
    ∙ ap (λ (ls : List (List Batch)). map_of g.size given (without ls f.zone)) placed.logs ∙ own-without g.size given f.zone logs b in
    let lie : AllByRecursion (λ (r : LiveRecord). is_in before.tables c.victim r.block ≡ true) c.gathered = rw is.gathers.gathered (records-lie (mounted_array before) before.tables.map.zone_size c.victim 0 (take c.cursor before.tables.map.places) before.tables.map.places (each before c)) in
    let beside : MoveBeside before after c f.zone (next_address before.drive f.zone) = record {
      zones = zones;
      places = placed.places ∙ ap (placed_entries (next_address before.drive f.zone) (next_address before.drive f.zone + 1) (gathered_entries c.gathered)) (extended-same places.None size before.tables.map.places refl);
      inside = entries-below before.tables.map.zone_size c.victim before.tables.map.places c.gathered lie;
      away = moved.away;
      lie = lie;
      same = logs_same;
      other = λ k there. other-without before f.zone k agrees below is.moves.spare (lies-one before.tables.map.zone_size c.victim f.zone (place_among before.tables.map.places k) there apart);
      trimmed = move-trims before after c agrees is (record { destination = f; second = is.second; places = placed; array = same });
    } in
    record {
      done = record { destination = f; second = is.second; places = placed; array = same };
      clean = record {
        destination = record { zone = f.zone; written = f.written + batch_size b; may_open = true };
        second = second;
        victim = rw placed.roles (sealed-alone g before.tables.roles f.zone (batch_size b) c.victim is.victim);
        gathers = record { within = omega (arith, is.gathers.within, moved.long); few = omega arith; gathered = rw (same, zones) (sym moved.taken) };
        room = rw (placed.geometry, now, count) fits.after.room;
        moves = rw (placed.logs, placed.geometry, placed.given) (moves-more g.block given c.victim f.zone size logs b below' below apart (record {
          move = (refl, refl);
          has = refl;
          grows = omega (arith, size-encoded before agrees);
          greatest = agrees.sound.numbers;
          some = (sealed-holds before c.victim agrees is.victim).has_batch;
          same = after_array ∙ same ∙ sym (mounted-encoded before);
        }) is.moves);
        undo = undo-move before after c (after_move before.tables c) f.zone (next_address before.drive f.zone) beside refl refl is.undo;
      };
      fewer = turns-less (batch_most g) (untaken before.tables c) (untaken after.tables (after_move before.tables c)) f.written (f.written + (1 + data_count (gathered_entries c.gathered))) (destination_written before.tables.roles.second) (destination_written after.tables.roles.second) _ _ (length c.gathered) left now (live-parts before c is) (ap destination_written is.second) (ap destination_written second ∙ omega (arith, count)) fits.after.fewer;
    }
  where
    each : (disk : MountedView) (c : CleanView) (k : ℕ) → k < length (take c.cursor disk.tables.map.places) → get_or disk.tables.map.places (0 + k) places.None ≡ get_or (take c.cursor disk.tables.map.places) k places.None
    each disk c k lt =
        let all = disk.tables.map.places in
        let spot : 0 + k ≡ k = omega arith in
        rw spot (sym (get_or-take c.cursor all k places.None (omega (arith, lt, length-take c.cursor all))))
