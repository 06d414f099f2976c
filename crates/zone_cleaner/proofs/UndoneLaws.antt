-- A clean is given up: its destination is emptied.
use Rattle.std.proofs.Common.{◌≡◌, ◌≢◌, ◌⊎◌, ℕ, suc, ◌+◌, ◌*◌, ◌/◌, ◌<◌, ◌≤◌, Bool, true, false, ◌||◌, eqb, List, [], ◌∷◌, ◌++◌, length, map, set, get_or, Option, Some, None, Result, Ok, Err, refl, sym, ap, subst, ◌∙◌, inl, inr, arith}
use Rattle.std.specs.List.{AllByRecursion, list_any}
use Rattle.std.specs.Option.{option_map}
use Rattle.std.proofs.lemmas.Bool.{cases_eq, eq-eqb, eqb-true, ne_eqb}
use Rattle.std.proofs.lemmas.List.{get_or-set_other, get_or-set_same, length-map, length-set}
use Rattle.std.proofs.Math.ListN.{get_or-map}
use Rattle.zone_states.specs.declared.geometry.Geometry.{Geometry}
use Rattle.drive_port.specs.Calls.{CanReset, IsNotRefused, Obeys, ResetContents, ResetGives, ResetKeeps, ResetLeaves, ResetZone}
use Rattle.drive_port.specs.declared.calls.PortFault.{PortFault}
use Rattle.drive_port.specs.declared.calls.PortFault.TheVariants as port
use Rattle.drive_port.proofs.ClosingLaws.{content_at-contents}
use Rattle.drive_port.specs.Contents.{Content, Usage, active, empty, full, unusable, Resets, SameContents, content_at, content_of, contents, emptied, is_usable, is_writable, nothing}
use Rattle.drive_port.specs.Drive.{DriveState, IsLawful}
use Rattle.batch_log.specs.Log.{Batch}
use Rattle.drive_array.specs.Records.{without}
use Rattle.drive_array.specs.Laws.{OnlyTorn}
use Rattle.drive_array.specs.Spare.{IsSpare}
use Rattle.drive_array.specs.ZoneLogs.{HasLog, drive_logs, encoded, encoded_array, log_at, zone_log}
use Rattle.drive_array.specs.Mountable.{IsMountable}
use Rattle.drive_array.specs.Repair.{HasAtMost}
use Rattle.drive_array.specs.Reserve.{batch_most}
use Rattle.drive_array.proofs.AllLaws.{all-set, all-weaker}
use Rattle.logical_map.specs.Places.{MapView}
use Rattle.logical_map.specs.declared.place.Place.{Place}
use Rattle.zone_choice.specs.declared.unreadable.Unreadable.{Unreadable}
use Rattle.zone_choice.specs.declared.roles.Filling.{Filling}
use Rattle.zone_choice.specs.declared.roles.Second.{Second}
use Rattle.zone_choice.specs.declared.roles.Second.TheVariants.{Destination}
use Rattle.zone_choice.specs.Agreement.{Agrees, HoldsFilling, MountedView, RolesAgree, TellsOpen, mounted, mounted_array}
use Rattle.zone_choice.specs.Roles.{AreApart, Differ, IsOccupied, RolesView, clean_undone, filling_list, fillings, is_at, is_empty_at, is_filling_at}
use Rattle.zone_choice.specs.Tables.{TablesView, is_left_out, is_lost_in, size_of}
use Rattle.zone_choice.specs.Changes.{IsHalt, fault_halt}
use Rattle.zone_cleaner.specs.declared.moved.Moved.{Moved}
use Rattle.zone_cleaner.specs.declared.step.Step.TheVariants.{Undo}
use Rattle.logical_map.specs.Live.{lies_in}
use Rattle.zone_cleaner.specs.Clean.{CleanView, IsClean, place_among, places_without, trims}
use Rattle.zone_cleaner.specs.Turns.{StepFails, StopsClean, UndoesClean, clean_fault}
use Rattle.zone_cleaner.specs.Undoing.{put_back}
use Rattle.zone_cleaner.proofs.OldLaws.{away-told, fits-told, length-without, other-without, records-without}
use Rattle.zone_cleaner.proofs.PlaceLaws.{drive-within}
use Rattle.zone_cleaner.proofs.RestoreLaws.{Restores, put-back-is}
use Rattle.drive_array.proofs.MountLaws.{emptied-log, spare_resets}
use Rattle.drive_array.proofs.SizeLaws.{empty_spare}
use Rattle.zone_choice.proofs.AgreementLaws.{StaysFailed, agrees_mountable, no_tails}
use Rattle.zone_choice.proofs.ContentLaws.{same-filled}
use Rattle.zone_choice.proofs.OpenLaws.{OpensNone, reset-opens, tells-kept}
use Rattle.zone_choice.proofs.ChangeLaws.{keeps-halt, keeps-same}
use Rattle.zone_choice.proofs.CommandLaws.{filling-in_range, start-below, zone-start}
use Rattle.zone_cleaner.proofs.CleanLaws.{clean_spare}
use Rattle.zone_cleaner.proofs.SealedLaws.{of-second, second-filling, zone-logs}
use Rattle.zone_cleaner.proofs.FailLaws.{stops_kept}
use Rattle.zone_cleaner.proofs.OnlyLaws.{only-without}

-- ---- where the blocks are

-- what the clean knows is enough
pub restores : (disk : MountedView) (c : CleanView) → Agrees disk → (is : IsClean disk c) → Restores disk.tables.map.zone_size is.destination.zone c.moved disk.tables.map.places (places_without disk is.destination.zone)
restores disk c agrees is =
    let d = is.destination.zone in
    let g = disk.drive.geometry in
    let logs = drive_logs disk.drive in
    let filling = second-filling disk.tables.roles (Destination is.destination) is.second in
    let below : d < length logs = omega (arith, filling-in_range disk.drive disk.tables d agrees filling, zone-logs disk.drive) in
    let within = records-without (λ r. r.offset < g.size) 0 d logs (drive-within disk.drive disk.tables agrees) in
    let none : log_at (without logs d) d ≡ [] = get_or-set_same logs d [] [] below in
    let few : length (without logs d) ≤ 65536 = omega (arith, length-set logs d [], zone-logs disk.drive, agrees.lawful.count, agrees.geometry.zones) in
    record {
      long = length-without disk d agrees is.moves.spare;
      known = all-weaker _ _ c.moved (λ m was there. (was there).0) is.undo.each;
      there = is.undo.all;
      other = λ k out. other-without disk d k agrees below is.moves.spare out;
      away = λ k. rw agrees.zone_size (away-told g.size disk.tables.given d k (without logs d) within none);
      fits = λ k. fits-told g.size disk.tables.given k (without logs d) agrees.geometry.size.1 few within;
    }

-- a block is a trim where it was one
same-trims : (xs ys : List Place) → length xs ≡ length ys → ((k : ℕ) → trims (place_among xs k) ≡ trims (place_among ys k)) → map trims xs ≡ map trims ys
same-trims [] [] long each = refl
same-trims [] (y ∷ ys) long each = absurd (omega (arith, long))
same-trims (x ∷ xs) [] long each = absurd (omega (arith, long))
same-trims (x ∷ xs) (y ∷ ys) long each =
    ap (λ (t : Option Bool). t ∷ map trims xs) (each 0) ∙ ap (λ (ts : List (Option Bool)). trims y ∷ ts) (same-trims xs ys (omega (arith, long)) (λ k. each (suc k)))

-- of some that were moved one has this block
moved-one : (P : Moved → Type 0) (ms : List Moved) (k : ℕ) → AllByRecursion P ms → list_any (λ (m : Moved). eqb m.block k) ms ≡ true → (m : Moved) × (m.block ≡ k) × P m
moved-one P [] k all some = absurd (cc)
moved-one P (m ∷ ms) k all some = by (eqb m.block k) refl (moved-one P ms k all.1) some
  where
    by : (b : Bool) → eqb m.block k ≡ b → (list_any (λ (n : Moved). eqb n.block k) ms ≡ true → (n : Moved) × (n.block ≡ k) × P n) → (b || list_any (λ (n : Moved). eqb n.block k) ms) ≡ true → (n : Moved) × (n.block ≡ k) × P n
    by true e rest some = (m, eqb-true m.block k e, all.0)
    by false e rest some = rest some

pub trims-back : (disk : MountedView) (c : CleanView) → Agrees disk → (is : IsClean disk c) → map trims (places_without disk is.destination.zone) ≡ map trims disk.tables.map.places
trims-back disk c agrees is =
    let d = is.destination.zone in
    let r = restores disk c agrees is in
    same-trims (places_without disk d) disk.tables.map.places r.long (λ k. at k (lies_in disk.tables.map.zone_size d (place_among disk.tables.map.places k)) refl)
  where
    at : (k : ℕ) (b : Bool) → lies_in disk.tables.map.zone_size is.destination.zone (place_among disk.tables.map.places k) ≡ b → trims (place_among (places_without disk is.destination.zone) k) ≡ trims (place_among disk.tables.map.places k)
    at k false e = ap trims ((restores disk c agrees is).other k e)
    at k true e =
        let one = moved-one _ c.moved k is.undo.each (is.undo.all k e) in
        let gives = one.2 (rw one.1 e) in
        rw one.1 at (ap trims gives.0 ∙ gives.1)

-- so they are put back
pub puts-back : (disk : MountedView) (c : CleanView) → Agrees disk → (is : IsClean disk c) → put_back disk.tables.map.zone_size is.destination.zone c.moved disk.tables.map.places ≡ places_without disk is.destination.zone
puts-back disk c agrees is = put-back-is disk.tables.map.zone_size is.destination.zone c.moved disk.tables.map.places (places_without disk is.destination.zone) (restores disk c agrees is)

-- ---- roles

-- the zones that are filled beside the destination
of-host : (P Q : Filling → Type 0) (host : Option Filling) (f : Filling) → AllByRecursion P (filling_list host ++ f ∷ []) → Differ host (Some (Destination f)) → ((x : Filling) → P x → x.zone ≢ f.zone → Q x) → AllByRecursion Q (filling_list host ++ [])
of-host P Q None f all differ each = tt
of-host P Q (Some x) f all differ each = (each x all.0 differ, tt)

alone : (host : Option Filling) → Differ host None
alone None = tt
alone (Some x) = tt

not-filled : (host : Option Filling) (f : Filling) (k : ℕ) → k ≢ f.zone → list_any (is_at k) (filling_list host ++ []) ≡ false → list_any (is_at k) (filling_list host ++ f ∷ []) ≡ false
not-filled None f k ne out = rw (ne_eqb f.zone k (λ same. ne (sym same))) refl
not-filled (Some x) f k ne out = rw (ne_eqb f.zone k (λ same. ne (sym same))) out

-- the roles with a destination, and without it
abbrev cleaning : List Bool → Option Filling → Filling → RolesView
cleaning empties host f = record { empty = empties; host = host; second = Some (Destination f) }

abbrev undone : List Bool → Option Filling → Filling → RolesView
undone empties host f = record { empty = set empties f.zone true; host = host; second = None }

roles-undone : (capacity : ℕ) (old new : List Content) (logs : List (List Batch)) (empties : List Bool) (host : Option Filling) (f : Filling) → RolesAgree capacity old logs (cleaning empties host f) → Resets old new f.zone → length logs ≡ length old
    → RolesAgree capacity new (without logs f.zone) (undone empties host f)
roles-undone capacity old new logs empties host f agree resets long =
    let there : content_at new f.zone ≡ emptied = rw resets.zones (get_or-set_same old f.zone emptied nothing resets.in_range) in
    let other = λ (k : ℕ) (ne : k ≢ f.zone). (let e : content_at new k ≡ content_at old k = rw resets.zones (get_or-set_other old f.zone k emptied nothing ne) in e) in
    let log = λ (k : ℕ) (ne : k ≢ f.zone). (let e : log_at (without logs f.zone) k ≡ log_at logs k = get_or-set_other logs f.zone k [] [] ne in e) in
    record {
      count = rw resets.zones (length-set empties f.zone true ∙ agree.count ∙ sym (length-set old f.zone emptied));
      apart = record {
        occupied = of-host (IsOccupied empties) (IsOccupied (set empties f.zone true)) host f agree.apart.occupied agree.apart.differ
            (λ x o ne. record { in_range = omega (arith, o.in_range, length-set empties f.zone true); not_empty = get_or-set_other empties f.zone x.zone true false ne ∙ o.not_empty });
        differ = alone host;
      };
      fillings_are = of-host (HoldsFilling capacity old logs) (HoldsFilling capacity new (without logs f.zone)) host f agree.fillings_are agree.apart.differ
          (λ x h ne. same-filled capacity old new logs (without logs f.zone) x (other x.zone ne) (log x.zone ne) h);
      empty = λ k is_empty. elim (cases_eq k f.zone) as (λ _. content_at new k ≡ emptied) [
        | inl same ↦ rw same there
        | inr ne ↦ other k ne ∙ agree.empty k (sym (get_or-set_other empties f.zone k true false ne) ∙ is_empty)
      ];
      sealed_are = λ k below not_empty not_filling.
          let range : f.zone < length empties = omega (arith, agree.count, resets.in_range) in
          let ne : k ≢ f.zone = λ same. (let up : get_or (set empties f.zone true) k false ≡ true = rw same (get_or-set_same empties f.zone true false range) in absurd (cc)) in
          let h = agree.sealed_are k (rw (resets.zones, length-set) at below) (sym (get_or-set_other empties f.zone k true false ne) ∙ not_empty) (not-filled host f k ne not_filling) in
          record { usage = rw (other k ne) h.usage; has_batch = rw (log k ne) h.has_batch };
    }

-- ---- the drive after it

-- a Reset of the destination, and the tables with the old places
pub record UndoGives (old new : DriveState) (tables : TablesView) (zone : ℕ) (after : TablesView) : Type 0 where
  pub agrees : Agrees (mounted new after)
  pub logs : drive_logs new ≡ without (drive_logs old) zone
  pub array : encoded new tables.given ≡ encoded old tables.given
  pub mountable : IsMountable new tables.given

abbrev cleaning_tables : MapView → List Bool → Option Filling → Filling → ℕ → ℕ → List Unreadable → TablesView
cleaning_tables map empties host f next given lost = record { map = map; roles = cleaning empties host f; next = next; given = given; unreadable = lost }

abbrev undone_tables : MapView → List Place → List Bool → Option Filling → Filling → ℕ → ℕ → List Unreadable → TablesView
undone_tables map all empties host f next given lost = record { map = record map { places = all }; roles = undone empties host f; next = next; given = given; unreadable = lost }

undo-gives : (old new : DriveState) (map : MapView) (empties : List Bool) (host : Option Filling) (f : Filling) (next given : ℕ) (lost : List Unreadable) → Agrees (mounted old (cleaning_tables map empties host f next given lost))
    → IsSpare old.geometry.block given (drive_logs old) f.zone → IsMountable old given → new.geometry ≡ old.geometry → IsLawful new → StaysFailed old new → Resets (contents old.zones) (contents new.zones) f.zone → OpensNone old.zones new.zones
    → UndoGives old new (cleaning_tables map empties host f next given lost) f.zone (undone_tables map (places_without (mounted old (cleaning_tables map empties host f next given lost)) f.zone) empties host f next given lost)
unfolding encoded_array
undo-gives old new map empties host f next given lost agrees spare_is mountable geometry lawful failed resets opens =
    let g = old.geometry in
    let zones = contents old.zones in
    let was = drive_logs old in
    let disk = mounted old (cleaning_tables map empties host f next given lost) in
    let only : OnlyTorn g zones f.zone = λ other torn. absurd (let no_tail = no_tails g zones (cleaning empties host f) agrees.roles other in let tail = torn.tail in cc) in
    let after = spare_resets g zones (contents new.zones) given f.zone mountable.holds spare_is only resets in
    let logs : drive_logs new ≡ without was f.zone = rw geometry after.logs in
    let spare = empty_spare g.block next given f.zone was agrees.sound spare_is in
    let size : length (places_without disk f.zone) ≡ length map.places = length-without disk f.zone agrees spare_is in
    record {
      agrees = record {
        geometry = rw geometry agrees.geometry;
        reserve = rw (geometry, size) agrees.reserve;
        lawful = lawful;
        logs = rw (geometry, resets.zones) (all-set (HasLog g) zones f.zone emptied agrees.logs (emptied-log g));
        sound = rw logs spare.sound;
        next = agrees.next;
        zones = rw geometry agrees.zones;
        zone_size = rw geometry agrees.zone_size;
        places = rw (logs, geometry) refl;
        roles = rw (logs, geometry) (roles-undone g.capacity zones (contents new.zones) was empties host f agrees.roles resets (length-map zones (zone_log g)));
        few = rw (logs, geometry) (of-host (λ x. AllByRecursion (HasAtMost (batch_most g)) (log_at was x.zone)) (λ x. AllByRecursion (HasAtMost (batch_most g)) (log_at (without was f.zone) x.zone)) host f agrees.few agrees.roles.apart.differ
            (λ x few ne. rw (get_or-set_other was f.zone x.zone [] [] ne) few));
        open_zones = tells-kept old.zones new.zones (filling_list host ++ []) opens (of-host (TellsOpen old.zones) (TellsOpen old.zones) host f agrees.open_zones agrees.roles.apart.differ (λ x tells ne. tells));
        readable = λ up. agrees.readable (failed up);
      };
      logs = logs;
      array = rw (logs, geometry) spare_is;
      mountable = record { lawful = lawful; holds = rw geometry after.mountable };
    }

-- the tables after it
abbrev pub tables_undone : MountedView → ℕ → TablesView
tables_undone disk zone = record disk.tables { map = record disk.tables.map { places = places_without disk zone }; roles = clean_undone disk.tables.roles }

-- it keeps the array
pub undo_gives : (old new : DriveState) (tables : TablesView) (c : CleanView) → Agrees (mounted old tables) → (is : IsClean (mounted old tables) c) → new.geometry ≡ old.geometry → IsLawful new → StaysFailed old new
    → Resets (contents old.zones) (contents new.zones) is.destination.zone → OpensNone old.zones new.zones → UndoGives old new tables is.destination.zone (tables_undone (mounted old tables) is.destination.zone)
undo_gives old new tables c agrees is geometry lawful failed resets opens =
    let mountable = agrees_mountable old tables agrees (clean_spare (mounted old tables) c agrees is) in
    let d = is.destination in
    let same : tables ≡ cleaning_tables tables.map tables.roles.empty tables.roles.host d tables.next tables.given tables.unreadable =
    ap (λ (s : Option Second). record tables { roles = record { empty = tables.roles.empty; host = tables.roles.host; second = s } }) is.second in
    let gives = undo-gives old new tables.map tables.roles.empty tables.roles.host d tables.next tables.given tables.unreadable (subst (λ (t : TablesView). Agrees (mounted old t)) same agrees) is.moves.spare mountable geometry lawful failed resets opens in
    subst (λ (t : TablesView). UndoGives old new t d.zone (tables_undone (mounted old t) d.zone)) (sym same) gives

-- ---- the Reset

undo-can : (drive : DriveState) (tables : TablesView) (c : CleanView) (start : ℕ) → Agrees (mounted drive tables) → (is : IsClean (mounted drive tables) c) → start ≡ is.destination.zone * drive.geometry.size → CanReset drive start
undo-can drive tables c start agrees is start-is =
    let d = is.destination.zone in
    let size = drive.geometry.size in
    let at = zone-start d size agrees.geometry.size.0 in
    let index : start / size ≡ d = rw start-is at.0 in
    let content = content_at-contents drive.zones d in
    let filling = second-filling tables.roles (Destination is.destination) is.second in
    let lt = filling-in_range drive tables d agrees filling in
    let held = of-second (HoldsFilling drive.geometry.capacity (contents drive.zones) (drive_logs drive)) tables.roles (Destination is.destination) is.second agrees.roles.fillings_are in
    record {
      aligned = rw start-is at.1;
      in_range = rw (start-is, ← agrees.lawful.count) (start-below d (length drive.zones) size agrees.geometry.size.0 lt);
      usable = rw index (ap (λ (x : Content). is_usable x.usage) (sym content) ∙ usable-of (content_at (contents drive.zones) d).usage held.usage);
    }
  where
    usable-of : (u : Usage) → (is_writable u ≡ true) ⊎ ((u ≡ full) × (is.destination.written ≡ drive.geometry.capacity)) → is_usable u ≡ true
    usable-of empty h = refl
    usable-of active h = refl
    usable-of full h = refl
    usable-of unusable (inl w) = absurd (cc)
    usable-of unusable (inr h) = absurd (let bad : unusable ≡ full = h.0 in cc)

-- it was done
pub undo_done : (old new : DriveState) (tables after : TablesView) (c : CleanView) (start : ℕ) → Agrees (mounted old tables) → (is : IsClean (mounted old tables) c) → is_left_out tables c.victim ≡ true → start ≡ is.destination.zone * old.geometry.size
    → ResetZone old new start → ResetLeaves {V = Unit {0}} old start (Ok tt) new → IsLawful new → StaysFailed old new → new.durable ≡ old.durable → after ≡ tables_undone (mounted old tables) is.destination.zone → UndoesClean (mounted old tables) (mounted new after)
undo_done old new tables after c start agrees is lost start-is done leaves lawful failed durable after-is =
    let d = is.destination.zone in
    let index = (zone-start d old.geometry.size agrees.geometry.size.0).0 in
    let opens : OpensNone old.zones new.zones = reset-opens {V = Unit {0}} old new start (Ok tt) leaves in
    let gives = undo_gives old new tables c agrees is done.geometry lawful failed (rw (start-is, index) at done.contents) opens in
    rw after-is (record {
      destination = is.destination;
      second = is.second;
      agrees = gives.agrees;
      logs = gives.logs;
      array = gives.array;
      trimmed = trims-back (mounted old tables) c agrees is;
      next = refl;
      unreadable = refl;
      given = refl;
      roles = refl;
      lost = λ all. (let none : is_left_out tables c.victim ≡ false = ap (λ (ls : List Unreadable). list_any (is_lost_in tables.map c.victim) ls) all in let bad = lost in absurd (cc));
      geometry = done.geometry;
      refused = done.counts.refused;
      durable = durable;
      appended = omega (arith, done.counts.appended);
      unfailing = failed;
    })

-- a Reset that was not done
pub record UndoFails (old new : DriveState) (tables : TablesView) (fault : PortFault) : Type 0 where
  pub halt : IsHalt fault
  pub fails : StepFails Undo (clean_fault (fault_halt fault)) (mounted old tables) (mounted new tables)

pub undo_fails : (old new : DriveState) (tables : TablesView) (c : CleanView) (start : ℕ) (fault : PortFault) → Agrees (mounted old tables) → (is : IsClean (mounted old tables) c) → start ≡ is.destination.zone * old.geometry.size
    → ResetGives {V = Unit {0}} old start (Err fault) new → ResetKeeps {V = Unit {0}} old start (Err fault) new → ResetLeaves {V = Unit {0}} old start (Err fault) new → Obeys {V = Unit {0}} old (Err fault) new → (CanReset old start → IsNotRefused {V = Unit {0}} (Err fault)) → UndoFails old new tables fault
undo_fails old new tables c start (port.Refused status) agrees is start-is gives kept leaves obeys passed = absurd (passed (undo-can old tables c start agrees is start-is))
undo_fails old new tables c start port.Memory agrees is start-is gives kept leaves obeys passed = record { halt = tt; fails = (keeps-halt old new tables gives.1.1.1 agrees, inl refl) }
undo_fails old new tables c start port.Failed agrees is start-is gives kept leaves obeys passed =
    let failed = obeys.fails refl in
    let opens : OpensNone old.zones new.zones = reset-opens {V = Unit {0}} old new start (Err port.Failed) leaves in
    record { halt = tt; fails = (keeps-same old new tables agrees kept opens obeys.lawful obeys.unfailing failed.1.refused obeys.durable failed.1.appended, inl refl, failed.0) }
undo_fails old new tables c start port.Stopped agrees is start-is gives kept leaves obeys passed = record { halt = tt; fails = by kept }
  where
    opens : OpensNone old.zones new.zones
    opens = reset-opens {V = Unit {0}} old new start (Err port.Stopped) leaves

    by : SameContents old new ⊎ ResetContents old new start → StopsClean (mounted old tables) (mounted new tables)
    by (inl same) = stops_kept (mounted old tables) (mounted new tables) c agrees is (keeps-same old new tables agrees same opens obeys.lawful obeys.unfailing (obeys.counts refl).refused obeys.durable (obeys.counts refl).appended) refl (obeys.stops refl)
    by (inr done) =
        let d = is.destination.zone in
        let index = (zone-start d old.geometry.size agrees.geometry.size.0).0 in
        let after = undo_gives old new tables c agrees is obeys.geometry obeys.lawful obeys.unfailing (rw (start-is, index) at done.contents) opens in
        let filling = second-filling tables.roles (Destination is.destination) is.second in
        record {
          stopped = obeys.stops refl;
          moves = only-without (drive_logs old) (drive_logs new) d (omega (arith, filling-in_range old tables d agrees filling, zone-logs old)) after.logs;
          mountable = after.mountable;
          array = after.array;
          tables = inl refl;
          geometry = obeys.geometry;
          refused = (obeys.counts refl).refused;
          durable = obeys.durable;
          appended = (obeys.counts refl).appended;
          unfailing = obeys.unfailing;
        }
