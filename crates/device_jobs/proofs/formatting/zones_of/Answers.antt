use Rattle.std.proofs.Common.{subst}
use Rattle.zone_states.specs.Geometry.{IsInRange}
use Rattle.drive_survey.proofs.ReadLaws.{keeps-none}
use Rattle.device_jobs.proofs.FormatLaws.{are-usages}
use Rattle.device_jobs.proofs.FormatFaultLaws.{unlisted}
use Rattle.device_jobs.proofs.formatting.zones_of.Goals as goal

pub returns-in_default-clause-kept : goal.returns-in_default-clause-kept
returns-in_default-clause-kept g c = keeps-none _ c.geometry-geometry.ensures.lawful

pub returns-in-Ok-report_zones-clause-ok : goal.returns-in-Ok-report_zones-clause-ok
returns-in-Ok-report_zones-clause-ok g c =
    let old = g.D.Device.drive c.args.device.now in
    let range : IsInRange old.geometry = subst IsInRange c.geometry-geometry.ensures.value c.in-Ok.ensures.ok in
    are-usages old (g.D.Device.drive c.report_zones.new.device) c.in-Ok-report_zones.zones.items range c.report_zones.ensures.kept c.in-Ok-report_zones.ensures.ok

pub returns-in-Err-clause-err : goal.returns-in-Err-clause-err
returns-in-Err-clause-err g c =
    rw c.unreported.ensures (unlisted (g.D.Device.drive c.args.device.now) (g.D.Device.drive c.report_zones.new.device) c.in-Err.fault c.in-Err.ensures.err)
