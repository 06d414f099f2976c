use Rattle.disk_runs.specs.Run.{exchange}
use Rattle.disk_runs.proofs.AnyLaws.{run_keeps_shape}
use Rattle.disk_runs.proofs.trace.answer_any_trace.Goals as goal

pub returns-clause-shape : goal.returns-clause-shape
returns-clause-shape g c =
    let bytes = exchange c.args.reader.now.left (g.W.Write.contents c.args.writer.now) (g.W.Write.contents c.answer_lines-result.new.writer) in
    run_keeps_shape c.args.taking bytes c.args.disk c.answer_lines-result.new.answerer.disk c.answer_lines-result.result c.answer_lines-result.ensures
