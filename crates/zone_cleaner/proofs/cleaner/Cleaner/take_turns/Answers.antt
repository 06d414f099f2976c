use Rattle.std.proofs.Common.{◌≡◌, ◌-◌, ◌+◌, None, arith, ap, subst}
use Rattle.std.specs.Prelude.{IsTrue}
use Rattle.zone_states.specs.declared.geometry.Geometry.{Geometry}
use Rattle.zone_choice.specs.Agreement.{MountedView}
use Rattle.zone_cleaner.specs.Start.{CanTake}
use Rattle.zone_cleaner.proofs.SaneLaws.{stays-more, stays-same}
use Rattle.zone_cleaner.proofs.SoFarLaws.{HasRun, run-found, run-more, run-none, run-over, run-refused}
use Rattle.zone_cleaner.proofs.cleaner.Cleaner.take_turns.Goals as goal

pub loop-init : goal.loop-init
loop-init g c = (
  stays-same c.args.disk.now c.requires.sane,
  omega arith,
  λ n one clean. subst (λ n. HasRun c.args.disk.now c.args.self.now n c.args.disk.now c.args.self.now) (omega (arith, one)) (run-none c.args.disk.now c.args.self.now (c.requires.cleaned clean) (c.requires.lacks clean)),
  omega arith,
)

pub go_on-requires-clause-cleaned : goal.go_on-requires-clause-cleaned
go_on-requires-clause-cleaned g c = λ clean. (c.loop.invariant.2 (c.loop.counter - 1) (omega (arith, c.loop.invariant.3)) clean).agrees

pub go_on-requires-clause-lacks : goal.go_on-requires-clause-lacks
go_on-requires-clause-lacks g c = λ clean none all. ((c.loop.invariant.2 (c.loop.counter - 1) (omega (arith, c.loop.invariant.3)) clean).idle all none).1

pub returns-in-Err-clause-answers : goal.returns-in-Err-clause-answers
returns-in-Err-clause-answers g c = λ clean.
    let turn = c.in-Err.ensures in
    run-refused c.args.disk.now c.loop.disk c.go_on.new.disk c.args.self.now c.loop.self c.go_on.new.self (c.loop.counter - 1) c.in-Err.fault
    (c.loop.invariant.2 (c.loop.counter - 1) (omega (arith, c.loop.invariant.3)) (turn.stays.shape.trusted clean)) (turn.answers clean)

pub returns-then-finds_zone-clause-answers : goal.returns-then-finds_zone-clause-answers
returns-then-finds_zone-clause-answers g c = λ clean.
    let turn = c.in_default.ensures in
    let stays = stays-more c.args.disk.now c.loop.disk c.go_on.new.disk c.loop.invariant.0 turn.stays in
    run-found c.args.disk.now c.loop.disk c.go_on.new.disk c.args.self.now c.loop.self c.go_on.new.self (c.loop.counter - 1)
    (c.loop.invariant.2 (c.loop.counter - 1) (omega (arith, c.loop.invariant.3)) (turn.stays.shape.trusted clean)) (turn.answers clean) (stays.host c.requires.host)
    (subst (λ (m : MountedView). (c.go_on.new.self ≡ None) × CanTake m.tables.roles) c.disk.view_is (c.finds_zone.ensures.some c.if-finds_zone.true))

pub loop-preserved : goal.loop-preserved
loop-preserved g c =
    let so_far = c.loop.invariant in
    let turn = c.in_default.ensures in (
      stays-more c.args.disk.now c.loop.disk c.go_on.new.disk so_far.0 turn.stays,
      omega (arith, so_far.1, turn.completed),
      λ n one clean.
          let before = so_far.2 (c.loop.counter - 1) (omega (arith, so_far.3)) (turn.stays.shape.trusted clean) in
          let after = run-more c.args.disk.now c.loop.disk c.go_on.new.disk c.args.self.now c.loop.self c.go_on.new.self (c.loop.counter - 1) c.requires.sane.geometry.capacity.0 before (turn.answers clean) (subst (λ (m : MountedView). c.go_on.new.self ≡ None → CanTake m.tables.roles → ⊥) c.disk.view_is (c.finds_zone.ensures.none c.if-finds_zone.false)) in
          subst (λ n. HasRun c.args.disk.now c.args.self.now n c.go_on.new.disk c.go_on.new.self) (omega (arith, one, so_far.3)) after,
      omega arith,
    )

pub returns-clause-answers : goal.returns-clause-answers
returns-clause-answers g c = λ clean.
    run-over c.args.disk.now c.loop.disk c.args.self.now c.loop.self (c.loop.counter - 1) c.requires.sane.geometry.capacity.0 (c.loop.invariant.2 (c.loop.counter - 1) (omega (arith, c.loop.invariant.3)) clean)
    (omega (arith, c.loop.invariant.3, c.loop-test.false, ap (λ (g : Geometry). g.capacity) c.geometry-end.ensures))
