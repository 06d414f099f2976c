use Rattle.std.proofs.Common.{arith}
use Rattle.drive_survey.proofs.ReadLaws.{keeps-both, keeps-none, kept-known}
use Rattle.tail_repair.proofs.TailLaws.{agrees-more}
use Rattle.tail_repair.proofs.copy.is_copy.Goals as goal

pub loop-offset-init : goal.loop-offset-init
loop-offset-init g c = (keeps-none _ c.requires.to.lawful, λ clean offset lt. absurd (omega (arith, lt)))

pub agrees-requires-clause-from : goal.agrees-requires-clause-from
agrees-requires-clause-from g c = kept-known _ _ c.args.front.zone.number c.args.front.zone.reported c.loop-offset.invariant.0 c.requires.from

pub agrees-requires-clause-to : goal.agrees-requires-clause-to
agrees-requires-clause-to g c = kept-known _ _ c.args.to.number c.args.to.reported c.loop-offset.invariant.0 c.requires.to

pub returns-in_err-agrees-clause-kept : goal.returns-in_err-agrees-clause-kept
returns-in_err-agrees-clause-kept g c = keeps-both _ _ _ c.loop-offset.invariant.0 c.agrees.ensures.kept

pub returns-then-not-branch-clause-kept : goal.returns-then-not-branch-clause-kept
returns-then-not-branch-clause-kept g c = keeps-both _ _ _ c.loop-offset.invariant.0 c.agrees.ensures.kept

pub loop-offset-preserved : goal.loop-offset-preserved
loop-offset-preserved g c = (
  keeps-both _ _ _ c.loop-offset.invariant.0 c.agrees.ensures.kept,
  λ clean. agrees-more _ _ c.args.front.zone.number c.args.front.blocks c.args.to.number c.loop-offset.offset c.loop-offset.invariant.0 (c.loop-offset.invariant.1 (c.agrees.ensures.kept.trusted clean)) (c.in_ok-agrees.ensures.ok clean c.if-not-branch.false),
)
