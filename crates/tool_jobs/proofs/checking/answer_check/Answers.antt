use Rattle.tool_jobs.specs.Checks.{AsksNone, FindsFaults}
use Rattle.tool_jobs.specs.Telling.{TellsNothing}
use Rattle.tool_jobs.specs.declared.fault.ToolFault.{ToolFault}
use Rattle.tool_jobs.proofs.CheckLaws.{none-refuses}
use Rattle.tool_jobs.proofs.TellingLaws.{exit, untold}
use Rattle.tool_jobs.proofs.checking.answer_check.Goals as goal

pub returns-in_err-tell-clause-err : goal.returns-in_err-tell-clause-err
returns-in_err-tell-clause-err g c =
    let file = g.I.Read.remaining c.args.bytes.now in
    let shows = g.F.Form.shows c.args.form.now in
    let old = g.W.Write.contents c.args.output.now in
    let new = g.W.Write.contents c.tell.new.output in
    exit (λ (fault : ToolFault). TellsNothing (AsksNone file) (FindsFaults file c.args.blocks) shows fault old new)
    c.from_residual-in_err-tell.result c.in_err-tell.field-0.0 c.from_residual-in_err-tell.ensures.1
    (untold (FindsFaults file c.args.blocks) shows old new c.in_ok-findings.findings c.in_ok-findings.ensures.ok (AsksNone file) c.in_err-tell.field-0.0 c.in_err-tell.ensures.err)

pub returns-clause-ok : goal.returns-clause-ok
returns-clause-ok g c = record { found = c.in_ok-findings.findings; is_it = (c.in_ok-findings.ensures.ok, none-refuses c.in_ok-findings.findings.refusal c.is_none.result c.is_none.ensures); tells = c.in_ok-tell.ensures.ok }
