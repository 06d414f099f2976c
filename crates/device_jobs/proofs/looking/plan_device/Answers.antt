use Rattle.tool_jobs.specs.Plans.{IsPlanOf, IsUnplanned}
use Rattle.tool_jobs.proofs.TellingLaws.{told-ok, untold-err}
use Rattle.device_jobs.proofs.looking.plan_device.Goals as goal

pub returns-clause-ok : goal.returns-clause-ok
returns-clause-ok g c =
    told-ok (IsPlanOf c.args.geometry c.args.aim) (g.F.Form.shows c.args.form.now)
    (g.W.Write.contents c.args.output.now) (g.W.Write.contents c.tell.new.output) c.in_ok-plan.plan c.in_ok-plan.ensures.ok c.tell.result c.tell.ensures.ok

pub returns-clause-err : goal.returns-clause-err
returns-clause-err g c =
    untold-err (IsPlanOf c.args.geometry c.args.aim) (g.F.Form.shows c.args.form.now)
    (g.W.Write.contents c.args.output.now) (g.W.Write.contents c.tell.new.output) c.in_ok-plan.plan c.in_ok-plan.ensures.ok
    (IsUnplanned c.args.geometry c.args.aim) c.tell.result c.tell.ensures.err
