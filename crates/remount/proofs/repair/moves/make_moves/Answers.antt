use Rattle.std.proofs.Common.{◌≡◌, ℕ, sym, subst, arith}
use Rattle.drive_survey.specs.Heads.{HeadsView}
use Rattle.drive_survey.proofs.NextLaws.{if-fault}
use Rattle.drive_array.proofs.ReserveLaws.{positive-most}
use Rattle.remount.specs.Moving.{IsAtMove, move_count}
use Rattle.remount.proofs.EmptyLaws.{stays-both, stays-none}
use Rattle.remount.proofs.MovingLaws.{moving-mounts}
use Rattle.remount.proofs.repair.moves.make_moves.Goals as goal

pub count-number-end-requires : goal.count-number-end-requires
count-number-end-requires g c = omega (arith, c.requires.safe.most, positive-most (g.D.Device.drive c.args.device.now).geometry c.requires.safe.range)

pub loop-number-init : goal.loop-number-init
loop-number-init g c =
    let old = g.D.Device.drive c.args.device.now in
    (omega arith, stays-none old c.geometry-size.ensures.lawful, λ n clean a. subst (λ (h : HeadsView). IsAtMove n old old c.args.tables.now c.args.plan.now 0 h) (sym c.new-heads.ensures) a)

pub make_move-requires : goal.make_move-requires
make_move-requires g c =
    let was = c.loop-number.invariant in
    record {
      safe = rw was.1.geometry c.requires.safe;
      few = omega (arith, c.loop-number-test.true, c.count-number-end.ensures);
      at = λ clean. (let at = c.requires.at (was.1.trusted clean) in (at.0, g.D.Device.drive c.args.device.now, was.2 at.0 clean at.1));
    }

pub returns-in_err-make_move-clause-err : goal.returns-in_err-make_move-clause-err
returns-in_err-make_move-clause-err g c = λ n clean a.
    if-fault c.from_residual.result c.in_err-make_move.field-0.0 _ c.from_residual.ensures.1
    (c.in_err-make_move.ensures.err n (g.D.Device.drive c.args.device.now) clean (c.loop-number.invariant.2 n (c.make_move.ensures.stays.trusted clean) a))

pub returns-in_err-make_move-clause-kept : goal.returns-in_err-make_move-clause-kept
returns-in_err-make_move-clause-kept g c = λ n clean a.
    c.make_move.ensures.kept n (g.D.Device.drive c.args.device.now) clean (c.loop-number.invariant.2 n (c.make_move.ensures.stays.trusted clean) a)

pub returns-in_err-make_move-clause-stays : goal.returns-in_err-make_move-clause-stays
returns-in_err-make_move-clause-stays g c = stays-both _ _ _ c.loop-number.invariant.1 c.make_move.ensures.stays

pub loop-number-preserved : goal.loop-number-preserved
loop-number-preserved g c = (
  omega (arith, c.loop-number-test.true, c.count-number-end.ensures),
  stays-both _ _ _ c.loop-number.invariant.1 c.make_move.ensures.stays,
  λ n clean a. c.in_ok-make_move.ensures.ok n (g.D.Device.drive c.args.device.now) clean (c.loop-number.invariant.2 n (c.make_move.ensures.stays.trusted clean) a),
)

pub returns-clause-ok : goal.returns-clause-ok
returns-clause-ok g c = λ n clean a.
    let old = g.D.Device.drive c.args.device.now in
    let now = g.D.Device.drive c.loop-number.device in
    let same : c.loop-number.number ≡ move_count c.args.plan.now = omega (arith, c.loop-number-test.false, c.loop-number.invariant.0, c.count-number-end.ensures) in
    subst (λ (k : ℕ). IsAtMove n old now c.args.tables.now c.args.plan.now k c.loop-number.moves.heads) same (c.loop-number.invariant.2 n clean a)

pub returns-clause-kept : goal.returns-clause-kept
returns-clause-kept g c = λ n clean a. moving-mounts n (g.D.Device.drive c.args.device.now) (g.D.Device.drive c.loop-number.device) _ _ _ (c.loop-number.invariant.2 n clean a).moving

pub returns-clause-stays : goal.returns-clause-stays
returns-clause-stays g c = c.loop-number.invariant.1
