use Rattle.std.proofs.Common.{inl, refl}
use Rattle.tool_jobs.specs.Telling.{TellsNothing}
use Rattle.tool_jobs.specs.declared.fault.ToolFault.{ToolFault}
use Rattle.tool_jobs.proofs.TellingLaws.{exit, told-ok, untold-err}
use Rattle.device_jobs.specs.Shown.{IsShownAnyway, IsShownDrive, IsUnshown, IsUnshownAnyway, ShowsDrive}
use Rattle.device_jobs.proofs.showing.show_zones.Goals as goal

pub returns-clause-ok : goal.returns-clause-ok
returns-clause-ok g c clean =
    told-ok (IsShownDrive c.args.form (g.D.Device.drive c.args.device.now) (g.D.Device.drive c.find_shown.new.device)) (ShowsDrive c.args.form)
    (g.W.Write.contents c.args.output.now) (g.W.Write.contents c.tell.new.output) c.in_ok-shown.shown (c.in_ok-shown.ensures.ok clean) c.tell.result c.tell.ensures.ok

pub returns-clause-err : goal.returns-clause-err
returns-clause-err g c clean =
    untold-err (IsShownDrive c.args.form (g.D.Device.drive c.args.device.now) (g.D.Device.drive c.find_shown.new.device)) (ShowsDrive c.args.form)
    (g.W.Write.contents c.args.output.now) (g.W.Write.contents c.tell.new.output) c.in_ok-shown.shown (c.in_ok-shown.ensures.ok clean)
    (IsUnshown (g.D.Device.drive c.args.device.now) (g.D.Device.drive c.find_shown.new.device)) c.tell.result c.tell.ensures.err

pub returns-clause-reported : goal.returns-clause-reported
returns-clause-reported g c =
    told-ok (IsShownAnyway c.args.form (g.D.Device.drive c.args.device.now)) (ShowsDrive c.args.form)
    (g.W.Write.contents c.args.output.now) (g.W.Write.contents c.tell.new.output) c.in_ok-shown.shown c.in_ok-shown.ensures.reported c.tell.result c.tell.ensures.ok

pub returns-clause-kinds : goal.returns-clause-kinds
returns-clause-kinds g c =
    untold-err (IsShownAnyway c.args.form (g.D.Device.drive c.args.device.now)) (ShowsDrive c.args.form)
    (g.W.Write.contents c.args.output.now) (g.W.Write.contents c.tell.new.output) c.in_ok-shown.shown c.in_ok-shown.ensures.reported
    (IsUnshownAnyway c.args.form (g.D.Device.drive c.args.device.now) (g.D.Device.drive c.find_shown.new.device)) c.tell.result c.tell.ensures.err

pub returns-in_err-shown-clause-err : goal.returns-in_err-shown-clause-err
returns-in_err-shown-clause-err g c clean =
    let first = g.D.Device.drive c.args.device.now in
    let last = g.D.Device.drive c.find_shown.new.device in
    let held = g.W.Write.contents c.args.output.now in
    exit (λ (fault : ToolFault). TellsNothing (IsUnshown first last) (IsShownDrive c.args.form first last) (ShowsDrive c.args.form) fault held held)
    c.from_residual.result c.in_err-shown.field-0.0 c.from_residual.ensures.1 (inl (c.in_err-shown.ensures.err clean, refl))

pub returns-in_err-shown-clause-kinds : goal.returns-in_err-shown-clause-kinds
returns-in_err-shown-clause-kinds g c =
    let first = g.D.Device.drive c.args.device.now in
    let last = g.D.Device.drive c.find_shown.new.device in
    let held = g.W.Write.contents c.args.output.now in
    exit (λ (fault : ToolFault). TellsNothing (IsUnshownAnyway c.args.form first last) (IsShownAnyway c.args.form first) (ShowsDrive c.args.form) fault held held)
    c.from_residual.result c.in_err-shown.field-0.0 c.from_residual.ensures.1 (inl (c.in_err-shown.ensures.kinds, refl))
