use Rattle.std.proofs.Common.{arith}
use Rattle.drive_survey.proofs.AllScanLaws.{all-known, there-is}
use Rattle.drive_survey.proofs.ReadLaws.{keeps-both, keeps-none}
use Rattle.tail_repair.specs.Repair.{at_first}
use Rattle.tail_repair.proofs.CauseLaws.{find-before, if-fault}
use Rattle.tail_repair.proofs.TailLaws.{all-noted, note-more, notes-kept}
use Rattle.tail_repair.proofs.tails.note_tails.Goals as goal

pub loop-number-init : goal.loop-number-init
loop-number-init g c = (keeps-none _ c.requires.known.lawful, λ clean. rw c.new-tails.ensures.items at_first)

pub note_tail-requires : goal.note_tail-requires
note_tail-requires g c = record { zone = all-known (g.D.Device.drive c.args.device.now) _ c.args.zones.now c.loop-number.number _ c.requires.known c.loop-number.invariant.0 (there-is c.args.zones.now c.loop-number.number _ c.loop-number-test.true) }

pub returns-in_err-note_tail-clause-kept : goal.returns-in_err-note_tail-clause-kept
returns-in_err-note_tail-clause-kept g c = keeps-both _ _ _ c.loop-number.invariant.0 c.note_tail.ensures.kept

pub loop-number-preserved : goal.loop-number-preserved
loop-number-preserved g c = (
  keeps-both _ _ _ c.loop-number.invariant.0 c.note_tail.ensures.kept,
  λ clean. note-more _ c.loop-number.number _ _ (c.loop-number.invariant.1 (c.note_tail.ensures.kept.trusted clean)) (notes-kept _ _ c.loop-number.number _ _ c.loop-number.invariant.0 (c.in_ok-note_tail.ensures.ok clean)),
)

pub returns-clause-ok : goal.returns-clause-ok
returns-clause-ok g c clean = all-noted _ c.loop-number.number _ (omega (arith, c.requires.known.count, c.loop-number-test.false, c.loop-number.auto.number-end)) (c.loop-number.invariant.1 clean)

pub returns-clause-kept : goal.returns-clause-kept
returns-clause-kept g c = c.loop-number.invariant.0

pub returns-in_err-note_tail-clause-err : goal.returns-in_err-note_tail-clause-err
returns-in_err-note_tail-clause-err g c clean =
    if-fault c.from_residual.result c.in_err-note_tail.field-0.0 _ c.from_residual.ensures.1 (find-before (g.D.Device.drive c.args.device.now) (g.D.Device.drive c.loop-number.device) (g.D.Device.drive c.note_tail.new.device) c.in_err-note_tail.field-0.0 c.loop-number.invariant.0 (c.in_err-note_tail.ensures.err clean))
