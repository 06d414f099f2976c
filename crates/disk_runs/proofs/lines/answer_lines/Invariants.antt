use Rattle.std.proofs.Common.{◌≡◌}
use Rattle.disk_runs.specs.Run.{exchange}
use Rattle.disk_runs.proofs.RunLaws.{SoFar}
use Rattle.disk_runs.proofs.lines.answer_lines.Given as goal

abbrev pub invariant-loop-number : goal.invariant-loop-number
invariant-loop-number g l =
    let contents = g.W.Write.contents in
    let a = g.A.Answerer in
    SoFar (a.language (a.mode l.fn.answerer)) (exchange l.fn.reader.left (contents l.fn.writer) (contents l.writer)) (a.state l.fn.answerer) l.number l.reader.left (a.state l.answerer)
    × (a.mode l.answerer ≡ a.mode l.fn.answerer)
