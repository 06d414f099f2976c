use Rattle.std.proofs.Common.{◌∙◌, ◌<◌, ap, arith, length, sym}
use Rattle.nvme_wire.specs.declared.zone_state.ZoneState.TheVariants.{Empty}
use Rattle.zone_states.specs.declared.geometry.Geometry.{Geometry}
use Rattle.drive_survey.specs.declared.reported.ReportedZone.{ReportedZone}
use Rattle.device_jobs.proofs.FormatLaws.{begins, empties-both, empties-none, passes, resets, stay-empty}
use Rattle.device_jobs.specs.Formats.{IsUnreset}
use Rattle.device_jobs.proofs.FormatFaultLaws.{exit, reset-of}
use Rattle.device_jobs.proofs.formatting.reset_zones.Goals as goal
use Rattle.device_jobs.proofs.formatting.reset_zones.Goals.{then-is_written+in_ok-reset_zone, else-is_written}

pub loop-number-init : goal.loop-number-init
loop-number-init g c = record {
  below = begins (g.D.Device.drive c.args.device.now) c.args.zones.now c.requires.reported;
  empties = empties-none (g.D.Device.drive c.args.device.now);
}

pub loop-number-preserved : goal.loop-number-preserved
loop-number-preserved g c =
    let first = g.D.Device.drive c.args.device.now in
    let reported = c.args.zones.now in
    let i = c.loop-number.number in
    let now = g.D.Device.drive c.loop-number.device in
    let so = c.loop-number.invariant.below in
    let lt : i < length reported = omega (arith, c.loop-number-test.true, so.count, ap (λ (g : Geometry). g.zones) c.geometry-count.ensures.value) in
    let none : ReportedZone = record { state = Empty; blocks = 0 } in
    elim c.if-is_written.branch [
      | then-is_written+in_ok-reset_zone w ↦
          rw w.device-is (record {
            below = resets first.geometry reported i none lt now (g.D.Device.drive w.reset_zone.new.device) so w.in_ok-reset_zone.ensures.ok w.reset_zone.ensures.lawful;
            empties = empties-both first now (g.D.Device.drive w.reset_zone.new.device) c.loop-number.invariant.empties w.reset_zone.ensures.empties;
          })
      | else-is_written w ↦ rw w.device-is (record {
        below = passes first.geometry reported i _ lt now so (sym c.is_written.ensures ∙ w.if-is_written.false);
        empties = c.loop-number.invariant.empties;
      })
    ]

pub returns-in_err-reset_zone-clause-err : goal.returns-in_err-reset_zone-clause-err
returns-in_err-reset_zone-clause-err g c =
    let new = g.D.Device.drive c.reset_zone.new.device in
    exit (IsUnreset new) c.from_residual.result c.in_err-reset_zone.field-0.0 c.from_residual.ensures.1
    (reset-of new c.loop-number.number c.in_err-reset_zone.field-0.0 c.in_err-reset_zone.ensures.err
    (stay-empty (g.D.Device.drive c.args.device.now).geometry c.args.zones.now c.loop-number.number (g.D.Device.drive c.loop-number.device) new c.loop-number.invariant.below
    c.reset_zone.ensures.empties))

pub returns-in_err-reset_zone-clause-empties : goal.returns-in_err-reset_zone-clause-empties
returns-in_err-reset_zone-clause-empties g c = empties-both _ _ _ c.loop-number.invariant.empties c.reset_zone.ensures.empties
