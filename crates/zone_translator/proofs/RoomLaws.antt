-- The host zone is sealed and taken, and the array stays.
use Rattle.std.proofs.Common.{◌≡◌, ◌⊎◌, ℕ, ◌*◌, ◌/◌, ◌<◌, ◌≤◌, Bool, true, ◌||◌, map, ◌++◌, Option, Some, None, Result, Ok, Err, refl, sym, ap, subst, ◌∙◌, inl, inr, arith}
use Rattle.std.specs.List.{list_any}
use Rattle.std.proofs.lemmas.Bool.{eq-eqb}
use Rattle.drive_port.specs.Calls.{CanFinish, Finished, FinishedContents, FinishGives, FinishKeeps, FinishLeaves, IsNotRefused, Obeys}
use Rattle.drive_port.specs.Contents.{Finishes, SameContents, contents, full, content_at}
use Rattle.drive_port.specs.Drive.{DriveState, IsLawful}
use Rattle.drive_port.specs.declared.calls.PortFault.{PortFault}
use Rattle.drive_port.specs.declared.calls.PortFault.TheVariants as port
use Rattle.zone_choice.specs.declared.roles.Filling.{Filling}
use Rattle.zone_choice.specs.Agreement.{Agrees, HoldsFilling, MountedView, mounted}
use Rattle.drive_array.specs.ZoneLogs.{drive_logs, encoded}
use Rattle.zone_choice.specs.Changes.{IsHalt, KeepsArray, fault_halt}
use Rattle.zone_choice.specs.declared.roles.Second.TheVariants.{Destination}
use Rattle.zone_choice.specs.Roles.{IsLowestEmpty, RolesView, empty_count, is_at, is_filling_at, filling_list, next_of, promoted, sealed, taken}
use Rattle.zone_choice.specs.Tables.{TablesView, size_of}
use Rattle.zone_choice.proofs.AgreementLaws.{StaysFailed, agrees_finish, agrees_seal, agrees_take, spare-taken, tables_with}
use Rattle.zone_choice.proofs.ChangeLaws.{keeps-halt, keeps-same}
use Rattle.zone_choice.proofs.CommandLaws.{can_finish, filling-few, filling-full, filling-in_range, zone-start}
use Rattle.zone_choice.proofs.MarkLaws.{sealed-seal, sealed-take}
use Rattle.zone_choice.proofs.OpenLaws.{OpensNone, finish-opens}
use Rattle.zone_choice.proofs.RolesLaws.{roles_with, second_list}
use Rattle.zone_cleaner.specs.declared.fault.CleanFault.{CleanFault}
use Rattle.zone_cleaner.specs.declared.fault.CleanFault.TheVariants as faults
use Rattle.zone_cleaner.specs.Clean.{CleanView}
use Rattle.zone_cleaner.specs.Start.{AgreesWithClean, GoesOn, IsCleaningCause, KeepsByCleaning}
use Rattle.zone_cleaner.specs.Clean.{trims}
use Rattle.zone_cleaner.proofs.NextLaws.{cleaned_kept, cleaning_kept, promote_gives}
use Rattle.zone_cleaner.proofs.TurnLaws.{keeps-more}
use Rattle.zone_translator.proofs.CleaningLaws.{StaysClean, array-stays, goes-same, newer-same, stays-cleaning}
use Rattle.zone_translator.specs.Cleaning.{KeepsCleaning}
use Rattle.zone_translator.specs.declared.fault.DiskFault.{DiskFault}
use Rattle.zone_translator.specs.declared.fault.DiskFault.TheVariants.{OutOfRange, OutOfMemory, Stopped, Spent, Unmounted, Smaller, Reserve, Damaged, Failed}
use Rattle.zone_translator.specs.Changes.{IsCause, IsHost, NoMoreTurns, RetireLeaves, RoomLeaves, StopKeeps, TakesHost, cleaning_fault, disk_fault}

-- ---- parts of a call that write nothing for the host

-- the array is kept, and the disk serves
pub keeps-serving : (a b : MountedView) (clean : Option CleanView) → AgreesWithClean a clean → KeepsArray a b → KeepsByCleaning a b × AgreesWithClean b clean
keeps-serving a b clean is kept = (cleaning_kept a b clean is kept, cleaned_kept a b clean is kept)

-- what cleaning keeps before room is made
pub room-join : {V : Type 0} (a b c : MountedView) (clean : Option CleanView) (result : Result V DiskFault) → KeepsByCleaning a b → RoomLeaves b c clean result → RoomLeaves a c clean result
room-join a b c clean (Ok done) kept leaves = (keeps-more a b c kept leaves.0, leaves.1)
room-join a b c clean (Err OutOfRange) kept leaves = (keeps-more a b c kept leaves.0, leaves.1)
room-join a b c clean (Err OutOfMemory) kept leaves = (keeps-more a b c kept leaves.0, leaves.1)
room-join a b c clean (Err Failed) kept leaves = (keeps-more a b c kept leaves.0, leaves.1)
room-join a b c clean (Err Stopped) kept leaves = keeps-more a b c kept leaves
room-join a b c clean (Err Spent) kept leaves = (keeps-more a b c kept leaves.0, leaves.1)
room-join a b c clean (Err Smaller) kept leaves = (keeps-more a b c kept leaves.0, leaves.1)
room-join a b c clean (Err Reserve) kept leaves = (keeps-more a b c kept leaves.0, leaves.1)
room-join a b c clean (Err Unmounted) kept leaves = (keeps-more a b c kept leaves.0, leaves.1)
room-join a b c clean (Err Damaged) kept leaves = absurd leaves

-- whatever the answer
pub room-keeps : (V : Type 0) (a b : MountedView) (clean : Option CleanView) (fault : DiskFault) → RoomLeaves {V = V} a b clean (Err fault) → KeepsByCleaning a b
room-keeps V a b clean OutOfRange leaves = leaves.0
room-keeps V a b clean OutOfMemory leaves = leaves.0
room-keeps V a b clean Failed leaves = leaves.0
room-keeps V a b clean Stopped leaves = leaves
room-keeps V a b clean Spent leaves = leaves.0
room-keeps V a b clean Smaller leaves = leaves.0
room-keeps V a b clean Reserve leaves = leaves.0
room-keeps V a b clean Unmounted leaves = leaves.0
room-keeps V a b clean Damaged leaves = absurd leaves

-- the drive stopped, while some tables agreed with it
retire-stops : (a b : MountedView) (clean : Option CleanView) → AgreesWithClean a clean → RetireLeaves a b (Err Stopped) → KeepsByCleaning a b
retire-stops a b clean is leaves =
    let kept = leaves.1.1 in
    let done = cleaning_kept a (mounted b.drive leaves.1.0) clean is kept in
    let given : b.tables.given ≡ a.tables.given = ap (λ (t : TablesView). t.given) leaves.0 in
    record {
      mountable = rw (given, ← kept.given) done.mountable;
      array = ap (encoded b.drive) (given ∙ sym kept.given) ∙ kept.array;
      moves = done.moves;
      size = ap size_of leaves.0;
      trimmed = ap (λ (t : TablesView). map trims t.map.places) leaves.0;
      given = given;
      geometry = kept.geometry;
      refused = kept.refused;
      durable = kept.durable;
      next = omega (arith, ap (λ (t : TablesView). t.next) leaves.0, kept.appended);
      appended = omega (arith, kept.appended);
      unfailing = kept.unfailing;
    }

-- the host zone was sealed, or the drive stopped
pub retire_room : (V : Type 0) (a b : MountedView) (clean : Option CleanView) (fault : DiskFault) → AgreesWithClean a clean → RetireLeaves a b (Err fault) → RoomLeaves {V = V} a b clean (Err fault)
retire_room V a b clean OutOfRange is leaves = keeps-serving a b clean is leaves
retire_room V a b clean OutOfMemory is leaves = keeps-serving a b clean is leaves
retire_room V a b clean Failed is leaves = keeps-serving a b clean is leaves
retire_room V a b clean Stopped is leaves = retire-stops a b clean is leaves
retire_room V a b clean Spent is leaves = keeps-serving a b clean is leaves
retire_room V a b clean Smaller is leaves = keeps-serving a b clean is leaves
retire_room V a b clean Reserve is leaves = keeps-serving a b clean is leaves
retire_room V a b clean Unmounted is leaves = keeps-serving a b clean is leaves
retire_room V a b clean Damaged is leaves = absurd leaves

-- and the clean continues
pub retire_clean : (V : Type 0) (a b : MountedView) (clean : Option CleanView) (fault : DiskFault) → AgreesWithClean a clean → RetireLeaves a b (Err fault) → KeepsCleaning {V = V} a clean (Err fault) b clean
retire_clean V a b clean OutOfRange is leaves = stays-cleaning {V = V} a b clean clean (Err OutOfRange) (array-stays a b clean is leaves)
retire_clean V a b clean OutOfMemory is leaves = stays-cleaning {V = V} a b clean clean (Err OutOfMemory) (array-stays a b clean is leaves)
retire_clean V a b clean Failed is leaves = stays-cleaning {V = V} a b clean clean (Err Failed) (array-stays a b clean is leaves)
retire_clean V a b clean Stopped is leaves =
    let turns : NoMoreTurns a clean b clean = rw leaves.0 (omega arith) in
    record { clean = λ up. goes-same a b clean clean refl turns; unfailing = leaves.1.1.unfailing; turns = tt; newer = tt }
retire_clean V a b clean Spent is leaves = stays-cleaning {V = V} a b clean clean (Err Spent) (array-stays a b clean is leaves)
retire_clean V a b clean Smaller is leaves = stays-cleaning {V = V} a b clean clean (Err Smaller) (array-stays a b clean is leaves)
retire_clean V a b clean Reserve is leaves = stays-cleaning {V = V} a b clean clean (Err Reserve) (array-stays a b clean is leaves)
retire_clean V a b clean Unmounted is leaves = stays-cleaning {V = V} a b clean clean (Err Unmounted) (array-stays a b clean is leaves)
retire_clean V a b clean Damaged is leaves = absurd leaves

-- the drive stopped, and the array is kept
pub room-stops : (a b : MountedView) → KeepsByCleaning a b → b.drive.stopped ≡ true → StopKeeps a b
room-stops a b kept stopped = record {
  stopped = stopped;
  keeps = record { mountable = kept.mountable; given = kept.given; geometry = kept.geometry; refused = kept.refused; durable = kept.durable; next = kept.next; appended = kept.appended; unfailing = kept.unfailing };
  size = kept.size;
}

-- the cause of a fault of cleaning
pub clean_cause : (drive : DriveState) (next : ℕ) (cause : CleanFault) → IsCleaningCause drive next cause → IsCause drive next (cleaning_fault cause)
clean_cause drive next faults.OutOfMemory is = tt
clean_cause drive next faults.Failed is = is
clean_cause drive next faults.Stopped is = is
clean_cause drive next faults.Spent is = is
clean_cause drive next faults.Damaged is = absurd is

-- a whole clean was not done
pub room-cleaned : (V : Type 0) (a b : MountedView) (clean : Option CleanView) (cause : CleanFault) → KeepsByCleaning a b → GoesOn (Err cause) b clean → IsCleaningCause b.drive b.tables.next cause → RoomLeaves {V = V} a b clean (Err (cleaning_fault cause))
room-cleaned V a b clean faults.OutOfMemory keeps on is = (keeps, on)
room-cleaned V a b clean faults.Failed keeps on is = (keeps, on)
room-cleaned V a b clean faults.Stopped keeps on is = keeps
room-cleaned V a b clean faults.Spent keeps on is = (keeps, on)
room-cleaned V a b clean faults.Damaged keeps on is = absurd is

-- ---- the host zone

-- the host zone is being filled
pub filling-host : (roles : RolesView) (host : Filling) → roles.host ≡ Some host → is_filling_at roles host.zone ≡ true
filling-host roles host is =
    ap (λ (h : Option Filling). list_any (is_at host.zone) (filling_list h ++ second_list roles.second)) is ∙ ap (λ (b : Bool). b || list_any (is_at host.zone) (second_list roles.second)) (eq-eqb host.zone host.zone refl)

-- tables with a known host zone
with-host : (drive : DriveState) (tables : TablesView) (host : Option Filling) → tables.roles.host ≡ host → Agrees (mounted drive tables) → Agrees (mounted drive (tables_with tables.map (roles_with tables.roles.empty host tables.roles.second) tables.next tables.given tables.unreadable))
with-host drive tables host e agrees =
    let P : Option Filling → Type 0 = λ h. Agrees (mounted drive (tables_with tables.map (roles_with tables.roles.empty h tables.roles.second) tables.next tables.given tables.unreadable)) in subst P e agrees

-- it holds what the tables say
pub host-filled : (drive : DriveState) (tables : TablesView) (host : Filling) → tables.roles.host ≡ Some host → Agrees (mounted drive tables) → HoldsFilling drive.geometry.capacity (contents drive.zones) (drive_logs drive) host
host-filled drive tables host is agrees = (with-host drive tables (Some host) is agrees).roles.fillings_are.0

-- no more than its capacity
pub host-few : (drive : DriveState) (tables : TablesView) (host : Filling) → tables.roles.host ≡ Some host → Agrees (mounted drive tables) → host.written ≤ drive.geometry.capacity
host-few drive tables host is agrees = filling-few drive tables host agrees (filling-in_range drive tables host.zone agrees (filling-host tables.roles host is)) (host-filled drive tables host is agrees)

-- and is full where it has that much
pub host-full : (drive : DriveState) (tables : TablesView) (host : Filling) → tables.roles.host ≡ Some host → Agrees (mounted drive tables) → host.written ≡ drive.geometry.capacity → (content_at (contents drive.zones) host.zone).usage ≡ full
host-full drive tables host is agrees e = filling-full drive tables host agrees (filling-in_range drive tables host.zone agrees (filling-host tables.roles host is)) (host-filled drive tables host is agrees) e

-- sealing it keeps the array
pub keeps-seal : (drive : DriveState) (tables new : TablesView) (host : Filling) → Agrees (mounted drive tables) → tables.roles.host ≡ Some host → new ≡ record tables { roles = sealed tables.roles } → 1 ≤ host.written
    → (content_at (contents drive.zones) host.zone).usage ≡ full → KeepsArray (mounted drive tables) (mounted drive new)
keeps-seal drive tables new host agrees is new-is some is_full =
    rw new-is (record {
      agrees = agrees_seal drive tables.map tables.roles.empty host tables.roles.second tables.next tables.given tables.unreadable (with-host drive tables (Some host) is agrees) some is_full;
      logs = refl;
      array = refl;
      places = refl;
      next = refl;
      given = refl;
      spare = λ h. h;
      sealed = sealed-seal tables.roles;
      second = refl;
      geometry = refl;
      refused = refl;
      durable = refl;
      appended = refl;
      unfailing = λ up. up;
    })

-- the tables after a Finish of the host zone agree with the drive, and the array is the same
finished_host : (old new : DriveState) (tables : TablesView) (host : Filling) (start : ℕ) → Agrees (mounted old tables) → tables.roles.host ≡ Some host → start ≡ host.zone * old.geometry.size → 1 ≤ host.written → host.written < old.geometry.capacity
    → new.geometry ≡ old.geometry → Finishes (contents old.zones) (contents new.zones) (start / old.geometry.size) → OpensNone old.zones new.zones → IsLawful new → StaysFailed old new
    → Agrees (mounted new (record tables { roles = sealed tables.roles })) × (drive_logs new ≡ drive_logs old) × (encoded new tables.given ≡ encoded old tables.given)
finished_host old new tables host start agrees is start-is some room geometry finishes opens lawful failed =
    let index = (zone-start host.zone old.geometry.size agrees.geometry.size.0).0 in
    let done = agrees_finish old new tables.map tables.roles.empty host tables.roles.second tables.next tables.given tables.unreadable (with-host old tables (Some host) is agrees) some room geometry lawful failed (rw (start-is, index) at finishes) opens in
    (done.0, done.1, done.2)

-- and so does finishing it
pub keeps-finish : (old new : DriveState) (tables after : TablesView) (host : Filling) (start : ℕ) → Agrees (mounted old tables) → tables.roles.host ≡ Some host → start ≡ host.zone * old.geometry.size → 1 ≤ host.written → host.written < old.geometry.capacity
    → Finished old new start → OpensNone old.zones new.zones → IsLawful new → StaysFailed old new → new.durable ≡ old.durable → after ≡ record tables { roles = sealed tables.roles } → KeepsArray (mounted old tables) (mounted new after)
keeps-finish old new tables after host start agrees is start-is some room finished opens lawful failed durable after-is =
    let done = finished_host old new tables host start agrees is start-is some room finished.geometry finished.contents opens lawful failed in
    rw after-is (record {
      agrees = done.0;
      logs = done.1;
      array = done.2;
      places = refl;
      next = refl;
      given = refl;
      spare = λ h. h;
      sealed = sealed-seal tables.roles;
      second = refl;
      geometry = finished.geometry;
      refused = finished.counts.refused;
      durable = durable;
      appended = omega (arith, finished.counts.appended);
      unfailing = failed;
    })

-- a Finish of the host zone that did not succeed
pub record FinishHalts (old new : DriveState) (tables : TablesView) (fault : PortFault) : Type 0 where
  pub halt : IsHalt fault
  pub leaves : RetireLeaves (mounted old tables) (mounted new tables) (Err (disk_fault (fault_halt fault)))
  pub cause : IsCause new tables.next (disk_fault (fault_halt fault))

-- its Finish is not refused, and the result is kept
pub finish_halts : (old new : DriveState) (tables : TablesView) (host : Filling) (start : ℕ) (fault : PortFault) → Agrees (mounted old tables) → tables.roles.host ≡ Some host → start ≡ host.zone * old.geometry.size → 1 ≤ host.written → host.written < old.geometry.capacity
    → FinishGives {V = Unit {0}} old start (Err fault) new → FinishKeeps {V = Unit {0}} old start (Err fault) new → FinishLeaves {V = Unit {0}} old start (Err fault) new → Obeys {V = Unit {0}} old (Err fault) new → (CanFinish old start → IsNotRefused {V = Unit {0}} (Err fault)) → FinishHalts old new tables fault
finish_halts old new tables host start (port.Refused status) agrees is start-is some room gives kept leaves obeys passed = absurd (passed (can_finish old tables host.zone start agrees (filling-host tables.roles host is) start-is))
finish_halts old new tables host start port.Memory agrees is start-is some room gives kept leaves obeys passed = record { halt = tt; leaves = keeps-halt old new tables gives.1.1.1 agrees; cause = tt }
finish_halts old new tables host start port.Failed agrees is start-is some room gives kept leaves obeys passed =
    let failed = obeys.fails refl in
    let opens : OpensNone old.zones new.zones = finish-opens {V = Unit {0}} old new start (Err port.Failed) leaves in
    record { halt = tt; leaves = keeps-same old new tables agrees kept opens obeys.lawful obeys.unfailing failed.1.refused obeys.durable failed.1.appended; cause = failed.0 }
finish_halts old new tables host start port.Stopped agrees is start-is some room gives kept leaves obeys passed = record { halt = tt; leaves = (refl, by kept); cause = obeys.stops refl }
  where
    opens : OpensNone old.zones new.zones
    opens = finish-opens {V = Unit {0}} old new start (Err port.Stopped) leaves

    by : SameContents old new ⊎ FinishedContents old new start → (after : TablesView) × KeepsArray (mounted old tables) (mounted new after)
    by (inl same) = (tables, keeps-same old new tables agrees same opens obeys.lawful obeys.unfailing (obeys.counts refl).refused obeys.durable (obeys.counts refl).appended)
    by (inr finished) =
        let after = record tables { roles = sealed tables.roles } in
        let done = finished_host old new tables host start agrees is start-is some room finished.geometry finished.contents opens obeys.lawful obeys.unfailing in (
          after,
          record {
            agrees = done.0;
            logs = done.1;
            array = done.2;
            places = refl;
            next = refl;
            given = refl;
            spare = λ h. h;
            sealed = sealed-seal tables.roles;
            second = refl;
            geometry = finished.geometry;
            refused = (obeys.counts refl).refused;
            durable = obeys.durable;
            appended = (obeys.counts refl).appended;
            unfailing = obeys.unfailing;
          },
        )

-- taking an empty zone keeps the array
keeps-take : (drive : DriveState) (tables new : TablesView) (zone : ℕ) → Agrees (mounted drive tables) → tables.roles.host ≡ None → IsLowestEmpty tables.roles zone → 2 ≤ empty_count tables.roles → new ≡ record tables { roles = taken tables.roles zone }
    → KeepsArray (mounted drive tables) (mounted drive new)
keeps-take drive tables new zone agrees is lowest two new-is =
    rw new-is (record {
      agrees = agrees_take drive tables.map tables.roles.empty tables.roles.second zone tables.next tables.given tables.unreadable (with-host drive tables None is agrees) lowest.in_range lowest.is_empty;
      logs = refl;
      array = refl;
      places = refl;
      next = refl;
      given = refl;
      spare = λ h. spare-taken tables.roles zone lowest.in_range lowest.is_empty two;
      sealed = λ k. sealed-take tables.roles k zone is lowest.is_empty;
      second = refl;
      geometry = refl;
      refused = refl;
      durable = refl;
      appended = refl;
      unfailing = λ up. up;
    })

-- ---- a host zone is found

-- a zone with room became the host zone, and the array is kept
pub record TakeGives (before after : MountedView) (clean : Option CleanView) (host : Filling) : Type 0 where
  pub leaves : RoomLeaves {V = Filling} before after clean (Ok host)
  pub host_is : IsHost after host
  pub stays : StaysClean before clean after clean

-- a next zone is known only if no clean runs
take-next : (drive : DriveState) (old new : TablesView) (clean : Option CleanView) (host : Filling) → AgreesWithClean (mounted drive old) clean → old.roles.host ≡ None → next_of old.roles.second ≡ Some host → new ≡ record old { roles = promoted old.roles } → TakeGives (mounted drive old) (mounted drive new) clean host
take-next drive old new None host is none next new-is =
    let gives = promote_gives drive old new host is none next new-is in
    record {
      leaves = (gives.keeps, gives.cleaned);
      host_is = record { host_is = gives.host; free = gives.room };
      stays = record { next = rw new-is (omega arith); geometry = refl; goes = λ up. tt; unfailing = λ up. up; turns = omega arith; newer = newer-same old.next (drive_logs drive) (drive_logs drive) refl };
    }
take-next drive old new (Some c) host is none next new-is = let bad : next_of (Some (Destination is.1.destination)) ≡ Some host = rw is.1.second at next in absurd (cc)

take-here : (drive : DriveState) (old new : TablesView) (clean : Option CleanView) (host : Filling) → AgreesWithClean (mounted drive old) clean → old.roles.host ≡ None → TakesHost old host new → TakeGives (mounted drive old) (mounted drive new) clean host
take-here drive old new clean host is none (inl next) = take-next drive old new clean host is none next.0 next.1
take-here drive old new clean host is none (inr (no_next, two, lowest, host-is, new-is)) =
    let kept = keeps-take drive old new host.zone is.0 none lowest two new-is in
    record {
      leaves = keeps-serving (mounted drive old) (mounted drive new) clean is kept;
      host_is = record {
        host_is = rw new-is (ap (λ (f : Filling). Some f) (sym host-is));
        free = omega (arith, ap (λ (f : Filling). f.written) host-is, is.0.geometry.capacity, is.0.geometry.size);
      };
      stays = array-stays (mounted drive old) (mounted drive new) clean is kept;
    }

-- and makes it the host zone
pub take_gives : (a b : MountedView) (clean : Option CleanView) (host : Filling) → AgreesWithClean a clean → a.tables.roles.host ≡ None → b.drive ≡ a.drive → TakesHost a.tables host b.tables → TakeGives a b clean host
take_gives a b clean host is none drive takes =
    let here : TakeGives a (mounted a.drive b.tables) clean host = take-here a.drive a.tables b.tables clean host is none takes in
    subst (λ (d : DriveState). TakeGives a (mounted d b.tables) clean host) (sym drive) here
