use Rattle.std.proofs.Common.{drop, arith}
use Rattle.std.proofs.lemmas.List.{length-append, length-drop, length-take}
use Rattle.disk_files.proofs.InputLaws.{drops-more, fewer-after, if-fault}
use Rattle.nbd_session.proofs.reading.skip.Goals as goal

pub returns-in_err-fill_all-clause-err : goal.returns-in_err-fill_all-clause-err
returns-in_err-fill_all-clause-err g c =
    let at = c.loop-left in
    let err = c.in_err-fill_all.ensures.err in
    if-fault c.from_residual.result c.in_err-fill_all.field-0.0 _ c.from_residual.ensures.1
    (err.0, fewer-after _ _ _ _ _ _ at.invariant.dropped err.1 (omega (arith, at.invariant.within, c.fill_all.ensures.length, c.min-size.ensures, at.invariant.whole, length-take c.min-size.result at.piece)))

pub loop-left-preserved : goal.loop-left-preserved
loop-left-preserved g c =
    let at = c.loop-left in
    record {
      within = omega arith;
      whole = omega (arith, length-append c.fill_all.new.buffer (drop c.min-size.result at.piece), length-drop c.min-size.result at.piece, c.fill_all.ensures.length, at.invariant.whole, length-take c.min-size.result at.piece);
      dropped = drops-more _ _ _ _ c.min-size.result _ c.fill_all.new.buffer at.invariant.dropped c.in_ok-fill_all.ensures.ok (omega (arith, c.fill_all.ensures.length, c.min-size.ensures, at.invariant.whole, length-take c.min-size.result at.piece)) (omega (arith, at.invariant.within, c.min-size.ensures));
    }
