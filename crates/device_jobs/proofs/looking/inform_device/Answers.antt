use Rattle.std.proofs.Common.{inl, refl}
use Rattle.tool_jobs.specs.Checks.{EndsLook}
use Rattle.tool_jobs.specs.Telling.{TellsNothing}
use Rattle.tool_jobs.specs.declared.fault.ToolFault.{ToolFault}
use Rattle.tool_jobs.proofs.TellingLaws.{exit, told-ok, untold-err}
use Rattle.drive_inspection.specs.Info.{IsReportInfo}
use Rattle.drive_inspection.specs.Written.{HoldsInfo}
use Rattle.device_jobs.specs.Looks.{IsUnasked}
use Rattle.device_jobs.proofs.looking.inform_device.Goals as goal

pub returns-clause-ok : goal.returns-clause-ok
returns-clause-ok g c clean =
    told-ok (HoldsInfo (g.D.Device.drive c.args.device.now) (g.D.Device.drive c.look.new.device)) (g.F.Form.shows c.args.form.now)
    (g.W.Write.contents c.args.output.now) (g.W.Write.contents c.tell.new.output) c.in_ok-found.found (c.in_ok-found.ensures.ok clean) c.tell.result c.tell.ensures.ok

pub returns-clause-err : goal.returns-clause-err
returns-clause-err g c clean =
    untold-err (HoldsInfo (g.D.Device.drive c.args.device.now) (g.D.Device.drive c.look.new.device)) (g.F.Form.shows c.args.form.now)
    (g.W.Write.contents c.args.output.now) (g.W.Write.contents c.tell.new.output) c.in_ok-found.found (c.in_ok-found.ensures.ok clean)
    (IsUnasked (g.D.Device.drive c.look.new.device)) c.tell.result c.tell.ensures.err

pub returns-clause-reported : goal.returns-clause-reported
returns-clause-reported g c =
    told-ok (IsReportInfo (g.D.Device.drive c.args.device.now)) (g.F.Form.shows c.args.form.now)
    (g.W.Write.contents c.args.output.now) (g.W.Write.contents c.tell.new.output) c.in_ok-found.found c.in_ok-found.ensures.reported c.tell.result c.tell.ensures.ok

pub returns-clause-kinds : goal.returns-clause-kinds
returns-clause-kinds g c =
    untold-err (IsReportInfo (g.D.Device.drive c.args.device.now)) (g.F.Form.shows c.args.form.now)
    (g.W.Write.contents c.args.output.now) (g.W.Write.contents c.tell.new.output) c.in_ok-found.found c.in_ok-found.ensures.reported
    EndsLook c.tell.result c.tell.ensures.err

pub returns-in_err-found-clause-err : goal.returns-in_err-found-clause-err
returns-in_err-found-clause-err g c clean =
    let first = g.D.Device.drive c.args.device.now in
    let last = g.D.Device.drive c.look.new.device in
    let held = g.W.Write.contents c.args.output.now in
    exit (λ (fault : ToolFault). TellsNothing (IsUnasked last) (HoldsInfo first last) (g.F.Form.shows c.args.form.now) fault held held)
    c.from_residual.result c.in_err-found.field-0.0 c.from_residual.ensures.1 (inl (c.in_err-found.ensures.err clean, refl))

pub returns-in_err-found-clause-kinds : goal.returns-in_err-found-clause-kinds
returns-in_err-found-clause-kinds g c =
    let held = g.W.Write.contents c.args.output.now in
    exit (λ (fault : ToolFault). TellsNothing EndsLook (IsReportInfo (g.D.Device.drive c.args.device.now)) (g.F.Form.shows c.args.form.now) fault held held)
    c.from_residual.result c.in_err-found.field-0.0 c.from_residual.ensures.1 (inl (c.in_err-found.ensures.kinds, refl))
