use Rattle.std.proofs.Common.{inl, refl}
use Rattle.drive_inspection.specs.Findings.{AreByReport, AreFindings}
use Rattle.tool_jobs.specs.Checks.{EndsLook}
use Rattle.tool_jobs.specs.Telling.{TellsNothing}
use Rattle.tool_jobs.specs.declared.fault.ToolFault.{ToolFault}
use Rattle.tool_jobs.proofs.CheckLaws.{none-refuses}
use Rattle.tool_jobs.proofs.TellingLaws.{exit, untold}
use Rattle.device_jobs.specs.Looks.{IsUnasked}
use Rattle.device_jobs.proofs.looking.check_device.Goals as goal

pub returns-clause-ok : goal.returns-clause-ok
returns-clause-ok g c clean = record { found = c.in_ok-findings.findings; is_it = (c.in_ok-findings.ensures.ok clean, none-refuses c.in_ok-findings.findings.refusal c.is_none.result c.is_none.ensures); tells = c.in_ok-tell.ensures.ok }

pub returns-clause-reported : goal.returns-clause-reported
returns-clause-reported g c = record { found = c.in_ok-findings.findings; is_it = (c.in_ok-findings.ensures.reported, none-refuses c.in_ok-findings.findings.refusal c.is_none.result c.is_none.ensures); tells = c.in_ok-tell.ensures.ok }

pub returns-in_err-tell-clause-err : goal.returns-in_err-tell-clause-err
returns-in_err-tell-clause-err g c clean =
    let first = g.D.Device.drive c.args.device.now in
    let last = g.D.Device.drive c.find_faults.new.device in
    let shows = g.F.Form.shows c.args.form.now in
    let old = g.W.Write.contents c.args.output.now in
    let new = g.W.Write.contents c.tell.new.output in
    exit (λ (fault : ToolFault). TellsNothing (IsUnasked last) (AreFindings first last c.args.blocks) shows fault old new)
    c.from_residual-in_err-tell.result c.in_err-tell.field-0.0 c.from_residual-in_err-tell.ensures.1
    (untold (AreFindings first last c.args.blocks) shows old new c.in_ok-findings.findings (c.in_ok-findings.ensures.ok clean) (IsUnasked last) c.in_err-tell.field-0.0 c.in_err-tell.ensures.err)

pub returns-in_err-tell-clause-kinds : goal.returns-in_err-tell-clause-kinds
returns-in_err-tell-clause-kinds g c =
    let first = g.D.Device.drive c.args.device.now in
    let shows = g.F.Form.shows c.args.form.now in
    let old = g.W.Write.contents c.args.output.now in
    let new = g.W.Write.contents c.tell.new.output in
    exit (λ (fault : ToolFault). TellsNothing EndsLook (AreByReport first) shows fault old new)
    c.from_residual-in_err-tell.result c.in_err-tell.field-0.0 c.from_residual-in_err-tell.ensures.1
    (untold (AreByReport first) shows old new c.in_ok-findings.findings c.in_ok-findings.ensures.reported EndsLook c.in_err-tell.field-0.0 c.in_err-tell.ensures.err)

pub returns-in_err-findings-clause-err : goal.returns-in_err-findings-clause-err
returns-in_err-findings-clause-err g c clean =
    let first = g.D.Device.drive c.args.device.now in
    let last = g.D.Device.drive c.find_faults.new.device in
    let held = g.W.Write.contents c.args.output.now in
    exit (λ (fault : ToolFault). TellsNothing (IsUnasked last) (AreFindings first last c.args.blocks) (g.F.Form.shows c.args.form.now) fault held held)
    c.from_residual.result c.in_err-findings.field-0.0 c.from_residual.ensures.1 (inl (c.in_err-findings.ensures.err clean, refl))

pub returns-in_err-findings-clause-kinds : goal.returns-in_err-findings-clause-kinds
returns-in_err-findings-clause-kinds g c =
    let held = g.W.Write.contents c.args.output.now in
    exit (λ (fault : ToolFault). TellsNothing EndsLook (AreByReport (g.D.Device.drive c.args.device.now)) (g.F.Form.shows c.args.form.now) fault held held)
    c.from_residual.result c.in_err-findings.field-0.0 c.from_residual.ensures.1 (inl (c.in_err-findings.ensures.kinds, refl))
