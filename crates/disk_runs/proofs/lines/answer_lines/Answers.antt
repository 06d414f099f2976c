use Rattle.std.proofs.Common.{refl, ◌∙◌}
use Rattle.disk_runs.proofs.RunLaws.{begins, ends, goes_on, line_of, not_answered, not_read, run_fault, short_line, stops, stops_writing}
use Rattle.disk_runs.proofs.lines.answer_lines.Goals as goal

pub loop-number-init : goal.loop-number-init
loop-number-init g c =
    let a = g.A.Answerer in
    (begins (a.language (a.mode c.args.answerer.now)) c.args.reader.now.left (g.W.Write.contents c.args.writer.now) (a.state c.args.answerer.now), refl)

pub returns-in-Err : goal.returns-in-Err
returns-in-Err g c =
    let a = g.A.Answerer in
    let by = a.mode c.args.answerer.now in
    let state = a.state c.loop-number.answerer in
    stops (a.language by) _ (a.state c.args.answerer.now) c.loop-number.number c.loop-number.reader.left state state c.of_line.result
    (not_read (a.language by) (g.met.A.Answerer.same by) state c.loop-number.reader.left _ _ c.loop-number.number c.in-Err.fault c.of_line.result c.in-Err.ensures.reads c.of_line.ensures) c.loop-number.invariant.0

pub returns-in_err-answer : goal.returns-in_err-answer
returns-in_err-answer g c =
    let a = g.A.Answerer in
    let language = a.language (a.mode c.args.answerer.now) in
    let old = a.state c.loop-number.answerer in
    let new = a.state c.answer.new.self in
    let reads = rw c.in-Ok-true.field-0-test at c.in-Ok-true.ensures.reads in
    let short = short_line c.next_line.new.self.line c.in-Ok-true.field-0 c.next_line.result c.in-Ok-true.is c.next_line.ensures.long in
    let why = rw (c.line.ensures, c.loop-number.invariant.1) at c.in_err-answer.ensures.err in
    run_fault language _ (a.state c.args.answerer.now) c.from_residual.result c.in_err-answer.field-0.0 new c.from_residual.ensures.1
    (stops language _ (a.state c.args.answerer.now) c.loop-number.number c.loop-number.reader.left old new c.in_err-answer.field-0.0
    (not_answered language old new c.loop-number.reader.left c.next_line.new.self.left c.next_line.new.self.line c.loop-number.number c.in_err-answer.field-0.0 reads short why) c.loop-number.invariant.0)

pub returns-in_err-send_reply : goal.returns-in_err-send_reply
returns-in_err-send_reply g c =
    let a = g.A.Answerer in
    let language = a.language (a.mode c.args.answerer.now) in
    let old = a.state c.loop-number.answerer in
    let new = a.state c.answer.new.self in
    let line = c.next_line.new.self.line in
    let reads = rw c.in-Ok-true.field-0-test at c.in-Ok-true.ensures.reads in
    let short = short_line line c.in-Ok-true.field-0 c.next_line.result c.in-Ok-true.is c.next_line.ensures.long in
    let done = rw (c.line.ensures, c.loop-number.invariant.1) at c.in_ok-answer.ensures.ok in
    run_fault language _ (a.state c.args.answerer.now) c.from_residual-in_err-send_reply.result _ new c.from_residual-in_err-send_reply.ensures.1
    (stops_writing language c.args.reader.now.left (g.W.Write.contents c.args.writer.now) (a.state c.args.answerer.now) c.loop-number.number c.loop-number.reader.left c.next_line.new.self.left _ _ line (a.reply c.answer.new.self)
    old new reads (line_of language old new line _ short done) done.answers c.in_err-send_reply.ensures.err c.loop-number.invariant.0)

pub loop-number-preserved : goal.loop-number-preserved
loop-number-preserved g c =
    let a = g.A.Answerer in
    let language = a.language (a.mode c.args.answerer.now) in
    let old = a.state c.loop-number.answerer in
    let new = a.state c.answer.new.self in
    let line = c.next_line.new.self.line in
    let reads = rw c.in-Ok-true.field-0-test at c.in-Ok-true.ensures.reads in
    let short = short_line line c.in-Ok-true.field-0 c.next_line.result c.in-Ok-true.is c.next_line.ensures.long in
    let done = rw (c.line.ensures, c.loop-number.invariant.1) at c.in_ok-answer.ensures.ok in (
      goes_on language c.args.reader.now.left (g.W.Write.contents c.args.writer.now) (a.state c.args.answerer.now) c.loop-number.number c.loop-number.reader.left c.next_line.new.self.left _ _ line (a.reply c.answer.new.self)
          old new reads (line_of language old new line _ short done) done.answers c.in_ok-send_reply.ensures.ok c.loop-number.invariant.0,
      c.answer.ensures.goes_by ∙ c.loop-number.invariant.1,
    )

pub returns : goal.returns
returns g c =
    let a = g.A.Answerer in
    let state = a.state c.loop-number.answerer in
    stops (a.language (a.mode c.args.answerer.now)) _ (a.state c.args.answerer.now) c.loop-number.number c.loop-number.reader.left state state _ (refl, refl) c.loop-number.invariant.0

pub returns-in-Ok-false : goal.returns-in-Ok-false
returns-in-Ok-false g c =
    let a = g.A.Answerer in
    let reads = rw c.in-Ok-false.field-0-test at c.in-Ok-false.ensures.reads in
    ends (a.language (a.mode c.args.answerer.now)) _ (a.state c.args.answerer.now) c.loop-number.number c.loop-number.reader.left c.next_line.new.self.left c.next_line.new.self.line (a.state c.loop-number.answerer)
    reads c.loop-number.invariant.0
