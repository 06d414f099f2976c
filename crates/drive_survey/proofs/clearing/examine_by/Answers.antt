use Rattle.std.proofs.Common.{arith, refl}
use Rattle.drive_survey.proofs.FindLaws.{examine-half, examine-needs, examine-size}
use Rattle.drive_survey.proofs.ReadLaws.{keeps-none}
use Rattle.drive_survey.proofs.clearing.examine_by.Goals as goal

pub returns-then-not-is_moved-clause-kept : goal.returns-then-not-is_moved-clause-kept
returns-then-not-is_moved-clause-kept g c = keeps-none _ c.requires.zones.lawful

pub returns-in-Some-clause-ok : goal.returns-in-Some-clause-ok
returns-in-Some-clause-ok g c clean =
    examine-needs (g.D.Device.drive c.args.device.now) c.args.survey.now.given c.args.survey.now c.args.candidates.now.records c.args.zone c.in-Some.block
    (rw (c.deref.ensures.value, c.if-not-is_moved.false) at c.is_moved.ensures.right) (rw c.in-Some.is at (c.in_ok-needed.ensures.ok clean))

pub returns-then-not-keep_size-clause-ok : goal.returns-then-not-keep_size-clause-ok
returns-then-not-keep_size-clause-ok g c clean =
    examine-size (g.D.Device.drive c.args.device.now) c.args.survey.now.given c.args.survey.now c.args.candidates.now.records c.args.candidates.now.sizes c.args.zone c.keep_size.result
    (rw (c.deref.ensures.value, c.if-not-is_moved.false) at c.is_moved.ensures.right) (c.requires.sizes (c.first_needed.ensures.kept.trusted clean)) c.if-not-keep_size.true c.keep_size.ensures

pub returns-clause-ok : goal.returns-clause-ok
returns-clause-ok g c clean =
    examine-half (g.D.Device.drive c.args.device.now) c.args.survey.now.given c.args.survey.now c.args.candidates.now.records c.args.candidates.now.sizes c.args.zone c.keep_size.result
    (rw (c.deref.ensures.value, c.if-not-is_moved.false) at c.is_moved.ensures.right) (rw c.in_default.is at (c.in_ok-needed.ensures.ok clean)) (c.requires.sizes (c.first_needed.ensures.kept.trusted clean)) c.if-not-keep_size.false c.keep_size.ensures

pub returns-in_err-needed-clause-completed : goal.returns-in_err-needed-clause-completed
returns-in_err-needed-clause-completed g c = omega (arith, c.first_needed.ensures.completed, c.requires.few c.args.zone)

pub returns-in-Some-clause-completed : goal.returns-in-Some-clause-completed
returns-in-Some-clause-completed g c = omega (arith, c.first_needed.ensures.completed, c.requires.few c.args.zone)

pub returns-then-not-keep_size-clause-completed : goal.returns-then-not-keep_size-clause-completed
returns-then-not-keep_size-clause-completed g c = omega (arith, c.first_needed.ensures.completed, c.requires.few c.args.zone)

pub returns-clause-completed : goal.returns-clause-completed
returns-clause-completed g c = omega (arith, c.first_needed.ensures.completed, c.requires.few c.args.zone)

pub returns-clause-some : goal.returns-clause-some
returns-clause-some g c = λ half. (rw (c.deref.ensures.value, c.if-not-is_moved.false) at c.is_moved.ensures.some) refl
