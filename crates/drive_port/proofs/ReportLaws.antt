-- What a report that succeeded showed, and which report a drive can't refuse.
use Rattle.std.proofs.Common.{◌≡◌, ℕ, ◌+◌, ◌-◌, ◌*◌, ◌/◌, ◌<◌, ◌≤◌, Bool, List, [], ◌++◌, if◌then◌else◌, length, take, drop, replicate, Result, Ok, Err, refl, ap, ◌∙◌, arith, length-append, length-take}
use Rattle.std.specs.List.{flat_map}
use Rattle.std.proofs.lemmas.Bool.{leb-false, lt-leb}
use Rattle.std.proofs.lemmas.List.{length-replicate}
use Rattle.std.proofs.Math.Nat.{mul-div-le}
use Rattle.nvme_wire.specs.Descriptor.{descriptor_bytes, report_head_bytes}
use Rattle.nvme_wire.specs.declared.command.ReportingOptions.{ReportingOptions}
use Rattle.nvme_wire.specs.declared.command.Command.TheVariants.{Receive}
use Rattle.nvme_wire.specs.declared.status.Status.TheVariants.{Success}
use Rattle.zone_states.specs.declared.geometry.Geometry.{Geometry}
use Rattle.zone_states.specs.Zone.{Zone}
use Rattle.zone_report.specs.Report.{descriptor_room, matching, report}
use Rattle.zone_report.proofs.ReportLaws.{length-descriptors}
use Rattle.drive_port.specs.declared.calls.PortFault.{PortFault}
use Rattle.drive_port.specs.declared.calls.PortFault.TheVariants.{Refused, Memory, Failed, Stopped}
use Rattle.drive_port.specs.Drive.{DriveState}
use Rattle.drive_port.specs.Step.{Performs, end_of}
use Rattle.drive_port.specs.Calls.{IsNotRefused, ReportGives, Reported}
use Rattle.drive_port.proofs.StepLaws.{counts-success, outcome-passes, succeeded, succeeds}

-- ---- the length of a report

length-parts : (head middle : List ℕ) (size shown : ℕ) → length head ≡ 64 → length middle ≡ 64 * shown → 64 + 64 * shown ≤ size
    → length (head ++ middle ++ replicate (size - 64 - 64 * shown) 0) ≡ size
length-parts head middle size shown h m fits =
    let zeros = replicate {A = ℕ} (size - 64 - 64 * shown) 0 in
    omega (arith, h, m, fits, length-append (head ++ middle) zeros, length-append head middle, length-replicate {A = ℕ} (size - 64 - 64 * shown) 0)

length-report : (geometry : Geometry) (zones : List Zone) (address : ℕ) (options : ReportingOptions) (partial : Bool) (dwords : ℕ) → 16 ≤ dwords
    → length (report geometry zones address options partial dwords) ≡ 4 * dwords
length-report geometry zones address options partial dwords low =
    let first = address / geometry.size in
    let named = matching geometry options first (drop first zones) in
    let shown = take (descriptor_room dwords) named in
    let room : length shown ≤ descriptor_room dwords = omega (arith, length-take (descriptor_room dwords) named) in
    length-parts (report_head_bytes (record { zones = if partial then length shown else length named })) (flat_map descriptor_bytes shown) (4 * dwords) (length shown)
    refl (length-descriptors shown) (omega (arith, room, mul-div-le (4 * dwords - 64) 64))

-- ---- a report that succeeded

-- a report that succeeded
pub report-succeeded : (old new : DriveState) (address : ℕ) (options : ReportingOptions) (partial : Bool) (dwords : ℕ) (bytes returned : List ℕ) (value : ℕ) → 16 ≤ dwords
    → Performs old (Ok (Receive address dwords options partial)) bytes Success value returned new → Reported old new address options partial dwords returned
report-succeeded old new address options partial dwords bytes returned value low step =
    let s = succeeded old.geometry old.zones new.zones (Ok (Receive address dwords options partial)) bytes step.held value step.effect in
    let gives = outcome-passes old.geometry step.effect.middle (Ok (Receive address dwords options partial)) bytes s.passed in
    record {
      geometry = step.geometry;
      counts = counts-success old new (Ok (Receive address dwords options partial)) bytes returned value step;
      in_range = leb-false _ _ s.passed.0;
      zones = step.effect.middle;
      before = step.effect.before;
      bytes_are = step.told refl ∙ s.returned_is;
      length_is = step.length_is ∙ ap length s.returned_is ∙ length-report old.geometry step.effect.middle address options partial dwords low;
      after = rw gives at step.effect.after;
    }

-- ---- a report that isn't refused

-- a report from a zone that is there is not refused
pub report-is_taken : {V : Type 0} (old new : DriveState) (address : ℕ) (options : ReportingOptions) (partial : Bool) (dwords : ℕ) (returned : List ℕ) (result : Result V PortFault)
    → ReportGives old address options partial dwords result returned new → address < end_of old.geometry → IsNotRefused result
report-is_taken old new address options partial dwords returned (Ok value) gives low = tt
report-is_taken old new address options partial dwords returned (Err (Refused status)) gives low =
    gives.1 (succeeds old.geometry old.zones new.zones (Ok (Receive address dwords options partial)) [] gives.3.held status gives.2 gives.3.effect (lt-leb _ _ low, tt))
report-is_taken old new address options partial dwords returned (Err Memory) gives low = tt
report-is_taken old new address options partial dwords returned (Err Failed) gives low = tt
report-is_taken old new address options partial dwords returned (Err Stopped) gives low = tt
