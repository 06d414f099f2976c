use Rattle.drive_survey.proofs.ReadLaws.{keeps-both}
use Rattle.device_jobs.specs.Shown.{IsUnshownAnyway}
use Rattle.device_jobs.proofs.FormatFaultLaws.{exit}
use Rattle.device_jobs.proofs.ShownLaws.{look-ended, unshown-anyway}
use Rattle.device_jobs.proofs.showing.find_shown.Goals as goal

pub returns-in_err-zones-clause-kinds : goal.returns-in_err-zones-clause-kinds
returns-in_err-zones-clause-kinds g c =
    let first = g.D.Device.drive c.args.device.now in
    let last = g.D.Device.drive c.zones_reported.new.device in
    exit (IsUnshownAnyway c.args.form first last) c.from_residual.result c.in_err-zones.field-0.0 c.from_residual.ensures.1
    (unshown-anyway c.args.form first last c.in_err-zones.field-0.0 c.in_err-zones.ensures.err)

pub returns-in_err-live-clause-kept : goal.returns-in_err-live-clause-kept
returns-in_err-live-clause-kept g c =
    keeps-both (g.D.Device.drive c.args.device.now) (g.D.Device.drive c.zones_reported.new.device) (g.D.Device.drive c.live_for.new.device)
    c.zones_reported.ensures.kept c.live_for.ensures.kept

pub returns-in_err-live-clause-kinds : goal.returns-in_err-live-clause-kinds
returns-in_err-live-clause-kinds g c =
    let first = g.D.Device.drive c.args.device.now in
    let last = g.D.Device.drive c.live_for.new.device in
    exit (IsUnshownAnyway c.args.form first last) c.from_residual-in_err-live.result c.in_err-live.field-0.0 c.from_residual-in_err-live.ensures.1
    (look-ended c.args.form first last c.in_err-live.field-0.0 c.in_err-live.ensures.drawn c.in_err-live.ensures.kinds)

pub returns-clause-kept : goal.returns-clause-kept
returns-clause-kept g c =
    keeps-both (g.D.Device.drive c.args.device.now) (g.D.Device.drive c.zones_reported.new.device) (g.D.Device.drive c.live_for.new.device)
    c.zones_reported.ensures.kept c.live_for.ensures.kept
