use Rattle.std.proofs.lemmas.Result.{IfErr-weaker}
use Rattle.drive_survey.proofs.ReadLaws.{keeps-both}
use Rattle.device_jobs.specs.Formats.{HasFormatCause, IsUnformatted}
use Rattle.device_jobs.proofs.FormatLaws.{empties-both, empties-kept}
use Rattle.device_jobs.proofs.FormatFaultLaws.{cause-before, exit, none-unusable, unformatted-before, unlisted-cause, unlisted-so, unusable-before, unusable-found, unusable-kept}
use Rattle.device_jobs.proofs.formatting.empty_usable.Goals as goal

pub returns-in_err-zones-clause-empties : goal.returns-in_err-zones-clause-empties
returns-in_err-zones-clause-empties g c = empties-kept _ _ c.zones_of.ensures.kept

pub returns-in_err-zones-clause-err : goal.returns-in_err-zones-clause-err
returns-in_err-zones-clause-err g c =
    let old = g.D.Device.drive c.args.device.now in
    let new = g.D.Device.drive c.zones_of.new.device in
    exit (IsUnformatted c.args.force old new) c.from_residual.result c.in_err-zones.field-0.0 c.from_residual.ensures.1
    (unlisted-so c.args.force old new c.zones_of.ensures.kept c.in_err-zones.field-0.0 c.in_err-zones.ensures.err)

pub returns-in_err-zones-clause-cause : goal.returns-in_err-zones-clause-cause
returns-in_err-zones-clause-cause g c clean =
    let old = g.D.Device.drive c.args.device.now in
    let new = g.D.Device.drive c.zones_of.new.device in
    exit (HasFormatCause old new) c.from_residual.result c.in_err-zones.field-0.0 c.from_residual.ensures.1
    (unlisted-cause old new c.in_err-zones.field-0.0 c.in_err-zones.ensures.err)

pub returns-in-Some-clause-empties : goal.returns-in-Some-clause-empties
returns-in-Some-clause-empties g c = empties-kept _ _ c.zones_of.ensures.kept

pub returns-in-Some-clause-err : goal.returns-in-Some-clause-err
returns-in-Some-clause-err g c =
    let old = g.D.Device.drive c.args.device.now in
    let new = g.D.Device.drive c.zones_of.new.device in (
      unusable-before old new c.in-Some.number c.zones_of.ensures.kept
          (unusable-found new c.in_ok-zones.zones.items c.in-Some.number c.in_ok-zones.ensures.ok (rw (← c.deref.ensures.value) c.in-Some.ensures.some)),
      c.zones_of.ensures.kept,
    )

pub returns-clause-kept : goal.returns-clause-kept
returns-clause-kept g c = λ unforced. keeps-both _ _ _ c.zones_of.ensures.kept (c.empty_zones.ensures.kept unforced)

pub returns-clause-unusable : goal.returns-clause-unusable
returns-clause-unusable g c = λ zone is.
    let old = g.D.Device.drive c.args.device.now in
    let new = g.D.Device.drive c.zones_of.new.device in
    absurd (none-unusable new c.in_ok-zones.zones.items zone c.in_ok-zones.ensures.ok (rw (← c.deref.ensures.value) c.in_default.ensures.none)
    (unusable-kept old new zone c.zones_of.ensures.kept is))

pub returns-clause-empties : goal.returns-clause-empties
returns-clause-empties g c = empties-both _ _ _ (empties-kept _ _ c.zones_of.ensures.kept) c.empty_zones.ensures.empties

pub returns-clause-err : goal.returns-clause-err
returns-clause-err g c =
    let old = g.D.Device.drive c.args.device.now in
    let middle = g.D.Device.drive c.zones_of.new.device in
    let new = g.D.Device.drive c.empty_zones.new.device in
    IfErr-weaker c.empty_zones.result (IsUnformatted c.args.force middle new) (IsUnformatted c.args.force old new)
    (λ fault so. unformatted-before c.args.force old middle new fault c.zones_of.ensures.kept so) c.empty_zones.ensures.err

pub returns-clause-cause : goal.returns-clause-cause
returns-clause-cause g c clean =
    let old = g.D.Device.drive c.args.device.now in
    let middle = g.D.Device.drive c.zones_of.new.device in
    let new = g.D.Device.drive c.empty_zones.new.device in
    IfErr-weaker c.empty_zones.result (HasFormatCause middle new) (HasFormatCause old new)
    (λ fault so. cause-before old middle new fault c.zones_of.ensures.kept so) (c.empty_zones.ensures.cause clean)
