use Rattle.std.proofs.Common.{refl, true, false, arith}
use Rattle.drive_survey.proofs.ReadLaws.{keeps-both, keeps-none, kept-known}
use Rattle.drive_survey.proofs.ZeroLaws.{zero-end, zero-step}
use Rattle.drive_survey.proofs.scan.is_zero_from.Goals as goal

pub loop-offset-init : goal.loop-offset-init
loop-offset-init g c = (keeps-none _ c.requires.zone.lawful, λ clean. refl, omega arith)

pub read_block-requires-clause-zone : goal.read_block-requires-clause-zone
read_block-requires-clause-zone g c = kept-known _ _ c.args.zone.number c.args.zone.reported c.loop-offset.invariant.0 c.requires.zone

pub returns-in_err-read_block-clause-kept : goal.returns-in_err-read_block-clause-kept
returns-in_err-read_block-clause-kept g c = keeps-both _ _ _ c.loop-offset.invariant.0 c.read_block.ensures.kept

pub returns-then-not-is_zero-clause-ok : goal.returns-then-not-is_zero-clause-ok
returns-then-not-is_zero-clause-ok g c clean =
    zero-step (g.D.Device.drive c.args.device.now) _ c.args.zone.number c.args.from c.loop-offset.offset c.args.zone.reported _ _ false c.requires.zone c.loop-offset.invariant.0 c.loop-offset-test.true (c.in_ok-read_block.ensures.ok clean) c.deref.ensures.value c.if-not-is_zero.ensures (c.loop-offset.invariant.1 (c.read_block.ensures.kept.trusted clean))

pub returns-then-not-is_zero-clause-kept : goal.returns-then-not-is_zero-clause-kept
returns-then-not-is_zero-clause-kept g c = keeps-both _ _ _ c.loop-offset.invariant.0 c.read_block.ensures.kept

pub loop-offset-preserved : goal.loop-offset-preserved
loop-offset-preserved g c = (
  keeps-both _ _ _ c.loop-offset.invariant.0 c.read_block.ensures.kept,
  λ clean. zero-step (g.D.Device.drive c.args.device.now) _ c.args.zone.number c.args.from c.loop-offset.offset c.args.zone.reported _ _ true c.requires.zone c.loop-offset.invariant.0 c.loop-offset-test.true (c.in_ok-read_block.ensures.ok clean) c.deref.ensures.value c.if-not-is_zero.ensures (c.loop-offset.invariant.1 (c.read_block.ensures.kept.trusted clean)),
  omega (arith, c.loop-offset.invariant.2, c.read_block.ensures.completed, c.loop-offset-test.true),
)

pub returns-clause-ok : goal.returns-clause-ok
returns-clause-ok g c clean = zero-end _ c.args.zone.number c.args.from _ c.args.zone.reported c.requires.zone c.loop-offset-test.false (c.loop-offset.invariant.1 clean)

pub returns-clause-kept : goal.returns-clause-kept
returns-clause-kept g c = c.loop-offset.invariant.0

pub returns-in_err-read_block-clause-completed : goal.returns-in_err-read_block-clause-completed
returns-in_err-read_block-clause-completed g c = omega (arith, c.loop-offset.invariant.2, c.read_block.ensures.completed, c.loop-offset-test.true)

pub returns-then-not-is_zero-clause-completed : goal.returns-then-not-is_zero-clause-completed
returns-then-not-is_zero-clause-completed g c = omega (arith, c.loop-offset.invariant.2, c.read_block.ensures.completed, c.loop-offset-test.true)

pub returns-clause-completed : goal.returns-clause-completed
returns-clause-completed g c = omega (arith, c.loop-offset.invariant.2)
