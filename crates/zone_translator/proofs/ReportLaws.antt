-- A report of all zones of a drive.
use Rattle.std.proofs.Common.{◌≡◌, ℕ, ◌+◌, ◌-◌, ◌*◌, ◌/◌, ◌<◌, ◌≤◌, false, List, length, take, Ok, Err, refl, ◌∙◌, arith, append-nil}
use Rattle.std.specs.List.{flat_map}
use Rattle.std.proofs.lemmas.List.{take_all}
use Rattle.nvme_wire.specs.Descriptor.{descriptor_bytes}
use Rattle.nvme_wire.specs.declared.command.ReportingOptions.TheVariants.{AnyState}
use Rattle.zone_states.specs.declared.geometry.Geometry.{Geometry}
use Rattle.zone_states.specs.Geometry.{IsInRange}
use Rattle.zone_states.specs.Zone.{Zone}
use Rattle.zone_report.specs.Report.{descriptor_room, matching, report}
use Rattle.drive_port.specs.Calls.{IsNotRefused, Obeys, ReportGives, Reported}
use Rattle.drive_port.specs.Contents.{SameContents}
use Rattle.drive_port.specs.Drive.{DriveState, IsClosing}
use Rattle.drive_port.specs.Step.{end_of}
use Rattle.drive_port.specs.declared.calls.PortFault.{PortFault}
use Rattle.drive_port.specs.declared.calls.PortFault.TheVariants as port
use Rattle.drive_port.proofs.ClosingLaws.{length-closing}
use Rattle.zone_choice.specs.Agreement.{Agrees, mounted}
use Rattle.zone_choice.specs.Changes.{IsHalt, KeepsArray, fault_halt}
use Rattle.zone_choice.specs.Tables.{TablesView}
use Rattle.zone_choice.proofs.ChangeLaws.{keeps-contents, keeps-halt, keeps-same}
use Rattle.zone_choice.proofs.OpenLaws.{closing-opens}
use Rattle.zone_translator.specs.Calls.{ReportsAll, whole_report}
use Rattle.zone_translator.specs.Changes.{disk_fault}
use Rattle.zone_translator.specs.Read.{IsReadFault}
use Rattle.zone_translator.proofs.ReadLaws.{ReadHalts}
use Rattle.drive_survey.proofs.ReportLaws.{length-matching, whole-room, can-report}

-- ---- the bytes

report-whole : (geometry : Geometry) (zones : List Zone) (dwords : ℕ) → 1 ≤ geometry.size → dwords ≡ 16 * (1 + length zones) → report geometry zones 0 AnyState false dwords ≡ whole_report geometry zones
report-whole geometry zones dwords some is =
    let start : 0 / geometry.size ≡ 0 = omega (arith, some) in
    let named = matching geometry AnyState 0 zones in
    let long = length-matching geometry 0 zones in
    let room = whole-room (length zones) dwords is in
    let taken : take (descriptor_room dwords) named ≡ named = take_all (descriptor_room dwords) named (omega (arith, long, room)) in
    let none : 4 * dwords - 64 - 64 * length named ≡ 0 = omega (arith, long, is) in
    rw (start, taken, none, append-nil (flat_map descriptor_bytes named), long) refl

-- the report has all zones
pub reports-all : (old new : DriveState) (dwords : ℕ) (bytes : List ℕ) → IsInRange old.geometry → length old.zones ≡ old.geometry.zones → dwords ≡ 16 * (1 + old.geometry.zones) → Reported old new 0 AnyState false dwords bytes → ReportsAll old bytes new
reports-all old new dwords bytes range count is reported = record {
  zones = reported.zones;
  before = reported.before;
  bytes_are = reported.bytes_are ∙ report-whole old.geometry reported.zones dwords (omega (arith, range.size, range.capacity)) (omega (arith, is, count, length-closing old.zones reported.zones reported.before));
  after = reported.after;
}

-- ---- the drive

-- it keeps the array
pub report_kept : (old new : DriveState) (tables : TablesView) (dwords : ℕ) (bytes : List ℕ) → Agrees (mounted old tables) → SameContents old new → IsClosing old.zones new.zones → Obeys {V = Unit {0}} old (Ok tt) new → Reported old new 0 AnyState false dwords bytes → KeepsArray (mounted old tables) (mounted new tables)
report_kept old new tables dwords bytes agrees same closing obeys reported = keeps-contents old new tables agrees same (closing-opens old.zones new.zones closing) obeys.lawful obeys.unfailing obeys.durable reported.counts

-- it is not refused, and the result is kept
pub report_halts : (old new : DriveState) (tables : TablesView) (dwords : ℕ) (returned : List ℕ) (fault : PortFault) → Agrees (mounted old tables) → ReportGives {V = Unit {0}} old 0 AnyState false dwords (Err fault) returned new → SameContents old new → IsClosing old.zones new.zones
    → Obeys {V = Unit {0}} old (Err fault) new → (0 < end_of old.geometry → IsNotRefused {V = Unit {0}} (Err fault)) → ReadHalts old new tables fault
report_halts old new tables dwords returned (port.Refused status) agrees gives same closing obeys passed = absurd (passed (can-report old agrees.geometry))
report_halts old new tables dwords returned port.Memory agrees gives same closing obeys passed = record { halt = tt; kept = keeps-halt old new tables gives.1.1 agrees; cause = tt }
report_halts old new tables dwords returned port.Failed agrees gives same closing obeys passed =
    let failed = obeys.fails refl in
    record {
      halt = tt;
      kept = keeps-same old new tables agrees same (closing-opens old.zones new.zones closing) obeys.lawful obeys.unfailing failed.1.refused obeys.durable failed.1.appended;
      cause = failed.0;
    }
report_halts old new tables dwords returned port.Stopped agrees gives same closing obeys passed = record {
  halt = tt;
  kept = keeps-same old new tables agrees same (closing-opens old.zones new.zones closing) obeys.lawful obeys.unfailing (obeys.counts refl).refused obeys.durable (obeys.counts refl).appended;
  cause = obeys.stops refl;
}

-- why it is not done
pub record ReportFails (new : DriveState) (fault : PortFault) : Type 0 where
  pub halt : IsHalt fault
  pub cause : IsReadFault new (disk_fault (fault_halt fault))

pub report_fails : (old new : DriveState) (fault : PortFault) → IsInRange old.geometry → Obeys {V = Unit {0}} old (Err fault) new → (0 < end_of old.geometry → IsNotRefused {V = Unit {0}} (Err fault)) → ReportFails new fault
report_fails old new (port.Refused status) range obeys passed = absurd (passed (can-report old range))
report_fails old new port.Memory range obeys passed = record { halt = tt; cause = tt }
report_fails old new port.Failed range obeys passed = record { halt = tt; cause = (obeys.fails refl).0 }
report_fails old new port.Stopped range obeys passed = record { halt = tt; cause = obeys.stops refl }
