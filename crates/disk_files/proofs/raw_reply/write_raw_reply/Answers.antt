use Rattle.std.proofs.Common.{sym}
use Rattle.disk_files.proofs.OutputLaws.{err-so, on_err, reply-digits, reply-end}
use Rattle.disk_files.proofs.raw_reply.write_raw_reply.Goals as goal

pub returns-in_err-write_digits-clause-err : goal.returns-in_err-write_digits-clause-err
returns-in_err-write_digits-clause-err g c =
    let head = rw c.head-2.ensures at c.in_ok-write_out.ensures.ok in
    on_err c.from_residual-in_err-write_digits.result _
    (reply-digits _ _ _ c.args.completion.now c.args.bytes.now (sym c.if-is_empty.ensures) head c.in_err-write_digits.ensures.err)

pub returns-clause-err : goal.returns-clause-err
returns-clause-err g c =
    let head = rw c.head-2.ensures at c.in_ok-write_out.ensures.ok in
    err-so c.write_out-3.result _ _
    (λ front. reply-end _ _ _ _ c.args.completion.now c.args.bytes.now (sym c.if-is_empty.ensures) head c.in_ok-write_digits.ensures.ok front) c.write_out-3.ensures.err
