use Rattle.tool_jobs.specs.Checks.{AsksNone}
use Rattle.tool_jobs.specs.Infos.{FindsInfo}
use Rattle.tool_jobs.proofs.TellingLaws.{told-ok, untold-err}
use Rattle.tool_jobs.proofs.informing.answer_info.Goals as goal

pub returns-clause-ok : goal.returns-clause-ok
returns-clause-ok g c =
    told-ok (FindsInfo (g.I.Read.remaining c.args.bytes.now)) (g.F.Form.shows c.args.form.now)
    (g.W.Write.contents c.args.output.now) (g.W.Write.contents c.tell.new.output) c.in_ok-found.found c.in_ok-found.ensures.ok c.tell.result c.tell.ensures.ok

pub returns-clause-err : goal.returns-clause-err
returns-clause-err g c =
    untold-err (FindsInfo (g.I.Read.remaining c.args.bytes.now)) (g.F.Form.shows c.args.form.now)
    (g.W.Write.contents c.args.output.now) (g.W.Write.contents c.tell.new.output) c.in_ok-found.found c.in_ok-found.ensures.ok
    (AsksNone (g.I.Read.remaining c.args.bytes.now)) c.tell.result c.tell.ensures.err
