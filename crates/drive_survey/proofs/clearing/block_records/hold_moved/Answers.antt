use Rattle.std.proofs.Common.{◌≡◌, Some}
use Rattle.std.specs.Prelude.{slice_get}
use Rattle.drive_survey.proofs.MovedLaws.{there}
use Rattle.drive_survey.proofs.RecordHoldLaws.{covers-all, covers-more, covers-skip, few-more, others-own, own-more}
use Rattle.drive_survey.proofs.clearing.block_records.hold_moved.Goals as goal

pub loop-number-preserved-then-not-is_moved : goal.loop-number-preserved-then-not-is_moved
loop-number-preserved-then-not-is_moved c = (
  c.loop-number.invariant.0,
  λ few. covers-skip c.args.scanned.now c.loop-number.number c.in-Ok.zone c.loop-number.table c.in-Ok.ensures.1 (rw c.if-not-is_moved.true at c.is_moved.ensures.right) (c.loop-number.invariant.1 few),
  c.loop-number.invariant.2,
  c.loop-number.invariant.3,
)

pub loop-number-preserved : goal.loop-number-preserved
loop-number-preserved c =
    let others = c.in_ok-hold_zone.ensures.others in
    let others_own = others-own c.loop-number.table c.hold_zone.new.table c.in-Ok.zone others in
    let there_is : slice_get c.args.scanned.now c.in-Ok.zone ≡ Some c.index-scanned-number.result = rw c.in-Ok.ensures.1 (there c.args.scanned.now c.loop-number.number c.index-scanned-number.result c.loop-number-test.true c.index-scanned-number.is) in (
      c.in_ok-hold_zone.ensures.none,
      λ few. covers-more c.args.scanned.now c.loop-number.number c.in-Ok.zone c.index-scanned-number.result c.loop-number.table c.hold_zone.new.table c.loop-number-test.true c.index-scanned-number.is c.in-Ok.ensures.1 c.in_ok-hold_zone.ensures.more c.in_ok-hold_zone.ensures.covers others_own (c.loop-number.invariant.1 few),
      few-more c.args.scanned.now c.in-Ok.zone c.index-scanned-number.result c.loop-number.table c.hold_zone.new.table there_is c.in_ok-hold_zone.ensures.few others_own c.loop-number.invariant.2,
      own-more c.args.scanned.now c.in-Ok.zone c.index-scanned-number.result c.loop-number.table c.hold_zone.new.table there_is c.in_ok-hold_zone.ensures.covers others c.loop-number.invariant.3,
    )

pub returns-clause-covers : goal.returns-clause-covers
returns-clause-covers c few = covers-all c.args.scanned.now c.loop-number.number c.loop-number.table c.loop-number-test.false (c.loop-number.invariant.1 few)
