use Rattle.std.proofs.Common.{◌≡◌, [], ◌∷◌, ◌++◌, refl}
use Rattle.drive_survey.proofs.AllScanLaws.{there-is}
use Rattle.tail_repair.proofs.KeepLaws.{drive-none, drive-then}
use Rattle.tail_repair.proofs.MovedLaws.{elsewhere-more, moved-all, moved-more}
use Rattle.tail_repair.proofs.PlaceLaws.{in-place-more, in-place-yet, none-of-none}
use Rattle.tail_repair.specs.Repair.{IsElsewhere}
use Rattle.tail_repair.proofs.repair.repair_each.Goals as goal

pub returns-in_err-one-clause-kept : goal.returns-in_err-one-clause-kept
returns-in_err-one-clause-kept g c = drive-then _ _ _ c.loop-tail.invariant.0 c.repair_tail.ensures.kept

pub returns-then-is_err-clause-kept : goal.returns-then-is_err-clause-kept
returns-then-is_err-clause-kept g c = drive-then _ _ _ c.loop-tail.invariant.0 c.repair_tail.ensures.kept

pub loop-tail-preserved : goal.loop-tail-preserved
loop-tail-preserved g c =
    let one = c.in_ok-one.one in
    let before = c.loop-tail.moved.items in
    let pushed : c.push.new.self.items ≡ before ++ one ∷ [] = rw c.if-is_err.ensures.negation at c.push.ensures.items in (
      drive-then _ _ _ c.loop-tail.invariant.0 c.repair_tail.ensures.kept,
      rw pushed (moved-more before one c.args.tails.now c.loop-tail.tail-index _ c.loop-tail-test.true c.in_ok-one.ensures.tail c.loop-tail.invariant.1),
      rw pushed (elsewhere-more before one c.loop-tail.invariant.2 c.in_ok-one.ensures.elsewhere),
      λ clean.
          let was = c.repair_tail.ensures.kept.trusted clean in
          let at = there-is c.args.tails.now c.loop-tail.tail-index _ c.loop-tail-test.true in
          let ascends = c.requires.ascends (c.loop-tail.invariant.0.trusted was) in
          rw pushed (in-place-more (g.D.Device.drive c.args.device.now) (g.D.Device.drive c.loop-tail.device) (g.D.Device.drive c.repair_tail.new.device) c.args.tails.now c.loop-tail.tail-index _ before one at c.in_ok-one.ensures.tail ascends (c.loop-tail.invariant.3 was) (c.repair_tail.ensures.beside clean) (c.in_ok-one.ensures.there clean) c.in_ok-one.ensures.apart),
    )

pub returns-clause-tails : goal.returns-clause-tails
returns-clause-tails g c = moved-all c.loop-tail.moved.items c.args.tails.now c.loop-tail.tail-index c.loop-tail-test.false c.loop-tail.invariant.1

pub loop-tail-init : goal.loop-tail-init
loop-tail-init g c = (
  drive-none (g.D.Device.drive c.args.device.now) c.requires.lawful,
  rw c.new-moved.ensures.items refl,
  none-of-none IsElsewhere c.new-moved.result.items c.new-moved.ensures.items,
  λ clean. rw c.new-moved.ensures.items (in-place-yet (g.D.Device.drive c.args.device.now) c.args.tails.now),
)

pub returns-clause-there : goal.returns-clause-there
returns-clause-there g c clean = (c.loop-tail.invariant.3 clean).told
