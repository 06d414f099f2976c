use Rattle.disk_runs.specs.Run.{exchange}
use Rattle.disk_runs.specs.AnyDevice.{is_clean, kept_lines}
use Rattle.disk_runs.specs.Taken.{disk_lines}
use Rattle.disk_runs.proofs.WhileLaws.{runs-while}
use Rattle.disk_runs.proofs.trace.answer_trace.Goals as goal

pub returns : goal.returns
returns g c =
    let bytes = exchange c.args.reader.now.left (g.W.Write.contents c.args.writer.now) (g.W.Write.contents c.answer_any_trace-disk.new.writer) in
    let clean = rw c.device.ensures at c.vouch.ensures in
    rw (c.of.ensures) (runs-while is_clean (kept_lines c.args.taking) (disk_lines c.args.taking) bytes c.args.disk c.answer_any_trace-disk.result.1 c.answer_any_trace-disk.result.0 (rw c.into_any.ensures at c.answer_any_trace-disk.ensures.runs) clean)
