-- One record is read.
use Rattle.std.proofs.Common.{◌≡◌, ◌≢◌, ℕ, List, [], get_or, Result, Ok, Err, refl, sym, ◌∙◌, append-nil, arith}
use Rattle.drive_port.specs.Calls.{CanRead, IsNotRefused, Obeys, ReadGives}
use Rattle.drive_port.specs.Contents.{Counts, SameContents, block_at, bytes_at, contents}
use Rattle.drive_port.specs.Drive.{DriveState, IsClosing, IsLawful}
use Rattle.drive_port.specs.declared.calls.PortFault.{PortFault}
use Rattle.drive_port.specs.declared.calls.PortFault.TheVariants as port
use Rattle.logical_map.specs.declared.place.Place.{Place}
use Rattle.logical_map.specs.declared.place.Place.TheVariants as places
use Rattle.zone_choice.specs.Agreement.{Agrees, MountedView, mounted}
use Rattle.drive_array.specs.ZoneLogs.{encoded}
use Rattle.zone_choice.specs.Changes.{IsHalt, fault_halt}
use Rattle.zone_choice.specs.Tables.{TablesView}
use Rattle.zone_choice.proofs.ChangeLaws.{keeps-contents, keeps-halt, keeps-refl, keeps-same}
use Rattle.zone_choice.proofs.AgreementLaws.{StaysFailed}
use Rattle.zone_choice.proofs.OpenLaws.{closing-opens}
use Rattle.zone_choice.proofs.ReadLaws.{HoldsPlace, holds_place}
use Rattle.std.specs.Prelude.{IsErrAnd, IsTrue}
use Rattle.zone_cleaner.specs.Answering.{GatherAnswers}
use Rattle.zone_cleaner.specs.LiveRecords.{LiveRecord}
use Rattle.zone_cleaner.specs.declared.fault.CleanFault.{CleanFault}
use Rattle.zone_cleaner.specs.declared.fault.CleanFault.TheVariants as faults
use Rattle.zone_cleaner.specs.Reading.{IsGatherFault, IsStoredAt, OnlyReads}
use Rattle.zone_cleaner.specs.Turns.{clean_fault}

holds : (drive : DriveState) (tables : TablesView) (block : ℕ) (at : Place) → IsStoredAt (mounted drive tables) block at → HoldsPlace drive (encoded drive tables.given) block at
holds drive tables block at stored = rw stored.place (holds_place drive tables block stored.agrees stored.in_range)

-- a Read that is done
pub fetch_reads : (old new : DriveState) (tables : TablesView) (block : ℕ) (at : Place) → IsStoredAt (mounted old tables) block at → SameContents old new → IsClosing old.zones new.zones → IsLawful new → StaysFailed old new → new.durable ≡ old.durable → Counts old new 0 → OnlyReads (mounted old tables) (mounted new tables)
fetch_reads old new tables block at stored same closing lawful failed durable counts = record {
  kept = keeps-contents old new tables stored.agrees same (closing-opens old.zones new.zones closing) lawful failed durable counts;
  tables = refl;
  same = same;
  completed = omega (arith, counts.completed);
}

-- a Read that halted
pub record FetchHalts (old new : DriveState) (tables : TablesView) (fault : PortFault) : Type 0 where
  pub halt : IsHalt fault
  pub reads : OnlyReads (mounted old tables) (mounted new tables)
  pub cause : IsGatherFault new (clean_fault (fault_halt fault))

-- a Read of a record is not refused, and the result is kept
pub fetch_halts : (old new : DriveState) (tables : TablesView) (block address : ℕ) (returned : List ℕ) (fault : PortFault) → IsStoredAt (mounted old tables) block (places.At address)
    → ReadGives {V = Unit {0}} old address 1 (Err fault) returned new → SameContents old new → IsClosing old.zones new.zones → Obeys {V = Unit {0}} old (Err fault) new → (CanRead old address 1 → IsNotRefused {V = Unit {0}} (Err fault)) → FetchHalts old new tables fault
fetch_halts old new tables block address returned (port.Refused status) stored gives same closing obeys passed = absurd (passed (holds old tables block (places.At address) stored).can)
fetch_halts old new tables block address returned port.Memory stored gives same closing obeys passed = record {
  halt = tt;
  reads = record { kept = keeps-halt old new tables gives.1.1 stored.agrees; tables = refl; same = same; completed = obeys.completed };
  cause = tt;
}
fetch_halts old new tables block address returned port.Failed stored gives same closing obeys passed =
    let failed = obeys.fails refl in
    record {
      halt = tt;
      reads = record {
        kept = keeps-same old new tables stored.agrees same (closing-opens old.zones new.zones closing) obeys.lawful obeys.unfailing failed.1.refused obeys.durable failed.1.appended;
        tables = refl;
        same = same;
        completed = obeys.completed;
      };
      cause = failed.0;
    }
fetch_halts old new tables block address returned port.Stopped stored gives same closing obeys passed = record {
  halt = tt;
  reads = record {
    kept = keeps-same old new tables stored.agrees same (closing-opens old.zones new.zones closing) obeys.lawful obeys.unfailing (obeys.counts refl).refused obeys.durable (obeys.counts refl).appended;
    tables = refl;
    same = same;
    completed = obeys.completed;
  };
  cause = obeys.stops refl;
}

-- what it showed is the array's
pub fetch_shown : (drive : DriveState) (tables : TablesView) (block address : ℕ) → IsStoredAt (mounted drive tables) block (places.At address) → bytes_at drive.geometry (contents drive.zones) address 1 ≡ get_or (encoded drive tables.given) block []
fetch_shown drive tables block address stored = append-nil (block_at drive.geometry (contents drive.zones) address) ∙ (holds drive tables block (places.At address) stored).shown

-- there is no room to gather a record
pub gather-refused : (disk : MountedView) (old now : List LiveRecord) (more : LiveRecord) (result : Result (Unit {0}) CleanFault) (fault : CleanFault) → IsErrAnd result (λ e. e ≡ fault) → fault ≢ faults.Failed → now ≡ old
    → (IsTrue disk.drive.clean → Agrees disk) → (IsTrue disk.drive.clean → fault ≡ faults.OutOfMemory) → GatherAnswers disk old more result disk now
gather-refused disk old now more (Ok done) fault is read same agrees memory = absurd is
gather-refused disk old now more (Err e) fault is read same agrees memory = record {
  asks = record { shape = record { geometry = refl; trusted = λ clean. clean; unfailing = λ up. up }; tables = refl; completed = omega arith };
  adds = tt;
  failed = same;
  fails = λ failed. absurd (read (sym is ∙ err-of e (Err e) refl failed));
  reads = λ clean. record { kept = keeps-refl disk.drive disk.tables (agrees clean); tables = refl; same = record { geometry = refl; contents = refl }; completed = omega arith };
  ok = λ clean. tt;
  err = λ clean. rw (is, memory clean) tt;
}
  where
    err-of : (x : CleanFault) (r : Result (Unit {0}) CleanFault) → r ≡ Err x → r ≡ Err faults.Failed → x ≡ faults.Failed
    err-of x r a b = (let same = sym a ∙ b in cc)
