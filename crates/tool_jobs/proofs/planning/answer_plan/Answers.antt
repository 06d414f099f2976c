use Rattle.tool_jobs.specs.Plans.{HasNoPlan, IsPlanFor}
use Rattle.tool_jobs.proofs.TellingLaws.{told-ok, untold-err}
use Rattle.tool_jobs.proofs.planning.answer_plan.Goals as goal

pub returns-clause-ok : goal.returns-clause-ok
returns-clause-ok g c =
    told-ok (IsPlanFor c.args.job.now.drive c.args.job.now.aim (g.I.Read.remaining c.args.bytes.now)) (g.F.Form.shows c.args.form.now)
    (g.W.Write.contents c.args.output.now) (g.W.Write.contents c.tell.new.output) c.in_ok-plan.plan c.in_ok-plan.ensures.ok c.tell.result c.tell.ensures.ok

pub returns-clause-err : goal.returns-clause-err
returns-clause-err g c =
    untold-err (IsPlanFor c.args.job.now.drive c.args.job.now.aim (g.I.Read.remaining c.args.bytes.now)) (g.F.Form.shows c.args.form.now)
    (g.W.Write.contents c.args.output.now) (g.W.Write.contents c.tell.new.output) c.in_ok-plan.plan c.in_ok-plan.ensures.ok
    (HasNoPlan c.args.job.now.drive c.args.job.now.aim (g.I.Read.remaining c.args.bytes.now)) c.tell.result c.tell.ensures.err
