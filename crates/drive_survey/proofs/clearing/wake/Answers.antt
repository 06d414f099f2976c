use Rattle.std.proofs.Common.{arith}
use Rattle.drive_survey.proofs.WaitingLaws.{woken-all, woken-more}
use Rattle.drive_survey.proofs.clearing.wake.Goals as goal

pub loop-found-preserved : goal.loop-found-preserved
loop-found-preserved c = (
  λ q waits. c.in_ok-wake_one.ensures.more q (c.loop-found.invariant.0 q waits),
  woken-more c.args.records.now c.loop-found.waiting c.wake_one.new.waiting c.args.own.now c.loop-found.found-index _ _ c.loop-found-test.true (omega arith) c.in_ok-wake_one.ensures.more c.in_ok-wake_one.ensures.holder c.loop-found.invariant.1,
)

pub returns-clause-holders : goal.returns-clause-holders
returns-clause-holders c = woken-all c.args.records.now c.loop-found.waiting c.args.own.now c.loop-found.found-index c.loop-found-test.false c.loop-found.invariant.1
