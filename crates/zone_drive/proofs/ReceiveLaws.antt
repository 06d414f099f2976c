-- What a report shows of the zones.
use Rattle.std.proofs.Common.{◌≡◌, ℕ, ◌/◌, ◌^◌, ◌<◌, ◌≤◌, Bool, List, [], length, Option, Some, None, Ok, refl, ap, ◌∙◌, arith}
use Rattle.std.proofs.lemmas.Bool.{le-leb, lt-leb}
use Rattle.nvme_wire.specs.declared.command.ReportingOptions.{ReportingOptions}
use Rattle.nvme_wire.specs.declared.command.Command.TheVariants.{Receive}
use Rattle.nvme_wire.specs.declared.status.Status.{Status}
use Rattle.nvme_wire.specs.declared.status.Status.TheVariants.{LbaOutOfRange, Success}
use Rattle.zone_states.specs.declared.geometry.Geometry.{Geometry}
use Rattle.zone_states.specs.Checks.{first_failing}
use Rattle.zone_states.specs.Geometry.{IsInRange}
use Rattle.zone_states.specs.Stored.{StoredZone}
use Rattle.zone_states.specs.Zone.{Zone}
use Rattle.zone_states.proofs.Cutting.{length-cut}
use Rattle.zone_states.proofs.HoldLaws.{may_hold-most}
use Rattle.zone_report.specs.Report.{report}
use Rattle.drive_port.specs.Step.{done, end_of, outcome, receive_checks, unless_refused}
use Rattle.zone_drive.specs.Choice.{Gives}
use Rattle.zone_drive.specs.Habits.{MemoryDrive}
use Rattle.zone_drive.specs.Stored.{AreZones}
use Rattle.zone_drive.specs.Table.{stored_at}
use Rattle.zone_drive.proofs.OutcomeLaws.{gives-same, performed-plain}
use Rattle.zone_drive.proofs.WriteLaws.{lawful-at, zone_at-is}

-- ---- zones

-- a zone has no more blocks than the size of a zone
pub stored-fits : (geometry : Geometry) (zones : List StoredZone) (index : ℕ) → IsInRange geometry → AreZones geometry zones → index < geometry.zones
    → length (stored_at zones index).bytes / geometry.block ≤ 2 ^ 20
stored-fits geometry zones index in_range are below =
    let block = geometry.block in
    let bytes = (stored_at zones index).bytes in
    let lt : index < length zones = omega (arith, below, are.count) in
    let lawful = lawful-at geometry zones index are lt in
    let here = ap (λ (z : Zone). length z.blocks) (zone_at-is block zones index lt) ∙ length-cut block (length bytes / block) bytes in
    omega (arith, here, may_hold-most _ geometry.capacity _ lawful.written, in_range.capacity.1, in_range.size.1)

-- ---- the command

outcome-Receive : (geometry : Geometry) (zones : List Zone) (slba dwords : ℕ) (options : ReportingOptions) (partial : Bool) (bytes : List ℕ) (refusal : Option Status)
    → refusal ≡ first_failing (receive_checks geometry slba)
    → outcome geometry zones (Ok (Receive slba dwords options partial)) bytes ≡ unless_refused refusal zones (done (report geometry zones slba options partial dwords) zones)
unfolding outcome
outcome-Receive geometry zones slba dwords options partial bytes refusal e = rw e refl

-- a report from past the end is refused
pub receive-refused : (old : MemoryDrive) (slba dwords : ℕ) (options : ReportingOptions) (partial : Bool) (bytes : List ℕ) → end_of old.state.geometry ≤ slba
    → Gives old (Ok (Receive slba dwords options partial)) bytes (record { status = LbaOutOfRange; value = 0 }) [] old
receive-refused old slba dwords options partial bytes past =
    let e : Some LbaOutOfRange ≡ first_failing (receive_checks old.state.geometry slba) = rw (le-leb _ _ past) refl in
    gives-same old (Ok (Receive slba dwords options partial)) bytes LbaOutOfRange refl
    (performed-plain old.habit old.state.geometry old.state.zones (Ok (Receive slba dwords options partial)) bytes _ (outcome-Receive old.state.geometry old.state.zones slba dwords options partial bytes (Some LbaOutOfRange) e) refl)

-- and else it is given
pub receive-reported : (old : MemoryDrive) (slba dwords : ℕ) (options : ReportingOptions) (partial : Bool) (bytes returned : List ℕ) → slba < end_of old.state.geometry
    → returned ≡ report old.state.geometry old.state.zones slba options partial dwords
    → Gives old (Ok (Receive slba dwords options partial)) bytes (record { status = Success; value = 0 }) returned old
receive-reported old slba dwords options partial bytes returned below is =
    let e : None ≡ first_failing (receive_checks old.state.geometry slba) = rw (lt-leb _ _ below) refl in
    rw is (record {
      outcome = performed-plain old.habit old.state.geometry old.state.zones (Ok (Receive slba dwords options partial)) bytes _ (outcome-Receive old.state.geometry old.state.zones slba dwords options partial bytes None e) refl;
      hardens = refl;
      others = refl;
    })
