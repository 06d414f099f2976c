use Rattle.drive_survey.proofs.AllScanLaws.{all-known, there-is}
use Rattle.drive_survey.proofs.ReadLaws.{keeps-both, keeps-none, kept-known}
use Rattle.tail_repair.proofs.repair.copy_of.Goals as goal

pub loop-number-init : goal.loop-number-init
loop-number-init g c = keeps-none _ c.requires.known.lawful

pub is_part-requires-clause-from : goal.is_part-requires-clause-from
is_part-requires-clause-from g c = kept-known _ _ c.args.front.zone.number c.args.front.zone.reported c.loop-number.invariant c.requires.from

pub is_part-requires-clause-to : goal.is_part-requires-clause-to
is_part-requires-clause-to g c = all-known (g.D.Device.drive c.args.device.now) _ c.args.zones.now c.loop-number.number _ c.requires.known c.loop-number.invariant (there-is c.args.zones.now c.loop-number.number _ c.loop-number-test.true)

pub returns-in_err-is_part-clause-kept : goal.returns-in_err-is_part-clause-kept
returns-in_err-is_part-clause-kept g c = keeps-both _ _ _ c.loop-number.invariant c.is_part.ensures.kept

pub returns-then-branch-clause-kept : goal.returns-then-branch-clause-kept
returns-then-branch-clause-kept g c = keeps-both _ _ _ c.loop-number.invariant c.is_part.ensures.kept

pub loop-number-preserved : goal.loop-number-preserved
loop-number-preserved g c = keeps-both _ _ _ c.loop-number.invariant c.is_part.ensures.kept
