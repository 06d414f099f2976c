use Rattle.std.proofs.Common.{◌≡◌, ◌+◌, ◌-◌, arith}
use Rattle.disk_files.proofs.OutputLaws.{digits-front, digits-more, digits-none, on_err}
use Rattle.disk_files.proofs.raw_reply.write_digits.Goals as goal

pub loop-at-init : goal.loop-at-init
loop-at-init g c = (omega arith, digits-none (g.W.Write.contents c.args.writer.now))

pub returns-in_err-write_out-clause-err : goal.returns-in_err-write_out-clause-err
returns-in_err-write_out-clause-err g c =
    let at = c.loop-at.at in
    let n = c.min-n.result in
    let long : at + n - at ≡ n = omega arith in
    let front = rw (c.encode.ensures, long) at c.in_err-write_out.ensures.err in
    on_err c.from_residual.result _ (digits-front _ _ _ at n c.args.bytes.now c.loop-at.invariant.1 front)

pub loop-at-preserved : goal.loop-at-preserved
loop-at-preserved g c =
    let at = c.loop-at.at in
    let n = c.min-n.result in
    let long : at + n - at ≡ n = omega arith in
    let piece = rw (c.encode.ensures, long) at c.in_ok-write_out.ensures.ok in
    (omega (arith, c.min-n.ensures), digits-more _ _ _ at n c.args.bytes.now c.loop-at.invariant.1 piece)
