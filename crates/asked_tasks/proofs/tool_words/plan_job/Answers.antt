use Rattle.clap.specs.Words.{found_of, rows_of}
use Rattle.asked_tasks.specs.ToolWords.{AsksForPlan, HasAim}
use Rattle.asked_tasks.proofs.WordLaws.{exits}
use Rattle.asked_tasks.proofs.tool_words.plan_job.Goals as goal

pub returns-in_err-aim : goal.returns-in_err-aim
returns-in_err-aim c =
    let rows = rows_of (found_of c.args.matches.now) in
    exits (HasAim rows) (AsksForPlan rows) c.from_residual.result c.in_err-aim.field-0.0 c.from_residual.ensures.1 (λ job asks. (job.aim, asks.aim)) c.in_err-aim.ensures.fault
