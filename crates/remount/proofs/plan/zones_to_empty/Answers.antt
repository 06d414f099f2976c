use Rattle.std.proofs.Common.{refl, arith}
use Rattle.remount.proofs.ToEmptyLaws.{found-all, found-inside, found-one, found-other}
use Rattle.remount.proofs.plan.zones_to_empty.Goals.{then-is_to_empty+in_ok-push, else-is_to_empty}
use Rattle.remount.proofs.plan.zones_to_empty.Goals as goal

pub loop-zone-preserved : goal.loop-zone-preserved
loop-zone-preserved c = elim c.if-is_to_empty.branch [
  | then-is_to_empty+in_ok-push w ↦ found-one c.args.survey.now c.loop-zone.zones.items c.if-is_to_empty.zones.items c.loop-zone.zone c.loop-zone.invariant (w.if-is_to_empty.ensures.yes refl) (w.if-is_to_empty.ensures.needed refl) (rw w.zones-is w.in_ok-push.ensures.items)
  | else-is_to_empty w ↦ rw w.zones-is (found-other c.args.survey.now c.loop-zone.zones.items c.loop-zone.zone c.loop-zone.invariant (w.if-is_to_empty.ensures.never refl))
]

pub returns-clause-right : goal.returns-clause-right
returns-clause-right c = λ logs heads long. found-all c.args.survey.now c.loop-zone.zones.items c.loop-zone.zone logs c.loop-zone.invariant (omega (arith, c.loop-zone-test.false, c.len-zone-end.ensures)) (omega (arith, c.loop-zone.auto.zone-end, c.len-zone-end.ensures)) heads long

pub returns-clause-inside : goal.returns-clause-inside
returns-clause-inside c = found-inside c.args.survey.now c.loop-zone.zones.items c.loop-zone.zone _ c.loop-zone.invariant (omega (arith, c.loop-zone.auto.zone-end, c.len-zone-end.ensures))
