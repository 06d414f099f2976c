use Rattle.std.proofs.Common.{codes}
use Rattle.clap.specs.Words.{found_of, rows_of}
use Rattle.asked_tasks.specs.ToolWords.{HasZonesForm}
use Rattle.asked_tasks.specs.Words.{AsksForFile}
use Rattle.asked_tasks.proofs.WordLaws.{exits}
use Rattle.asked_tasks.proofs.ToolLaws.{report-form}
use Rattle.asked_tasks.proofs.words.report_task.Goals as goal

pub returns-in_err-form : goal.returns-in_err-form
returns-in_err-form c =
    let rows = rows_of (found_of c.args.matches.now) in
    exits (HasZonesForm rows) (AsksForFile (codes "report") rows) c.from_residual.result c.in_err-form.field-0.0 c.from_residual.ensures.1 (report-form rows) c.in_err-form.ensures.fault
