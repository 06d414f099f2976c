use Rattle.std.proofs.Common.{◌≡◌, ℕ, suc, ◌+◌, ◌∙◌, sym, ap, subst, arith, rules}
use Rattle.std.specs.Prelude.{IsTrue}
use Rattle.zone_translator.proofs.KeepingLaws.{keeps_again, keeps_call}
use Rattle.zone_translator.specs.Flat.{FlatDisk}
use Rattle.zone_translator.specs.View.{flat_of}
use Rattle.zone_translator.specs.declared.status.DiskStatus.TheVariants.{Serving}
use Rattle.disk_runs.specs.Trace.{TakesTurns}
use Rattle.disk_runs.proofs.RequestLaws.{idle_unchanged, takes_more, takes_one, takes_rest, turns_done, turns_fewer, turns_stop}
use Rattle.disk_runs.proofs.ShapeLaws.{alike_join}
use Rattle.disk_runs.proofs.requests.clean.Goals as goal

pub loop-turn-preserved : goal.loop-turn-preserved
loop-turn-preserved g c =
    let so_far = c.loop-turn.invariant in
    let was : IsTrue c.idle.new.self.drive.clean → IsTrue c.loop-turn.disk.drive.clean = c.idle.ensures.alike.shape.trusted in
    let next : suc c.loop-turn._turn ≡ c.loop-turn._turn + 1 = omega arith in
    let done : IsTrue c.idle.new.self.drive.clean → (flat_of c.idle.new.self ≡ flat_of c.loop-turn.disk) × (c.loop-turn.disk.status ≡ Serving) =
    λ clean. idle_unchanged (flat_of c.loop-turn.disk) (flat_of c.idle.new.self) (c.in_ok-idle.ensures.answers clean).flat in (
      λ clean. (done clean).0 ∙ so_far.0 (was clean),
      λ clean some. sym (ap (λ (d : FlatDisk). d.status) (so_far.0 (was clean))) ∙ (done clean).1,
      λ clean. keeps_again c.args.disk.now c.loop-turn.disk c.idle.new.self (so_far.2 (was clean)) (keeps_call c.loop-turn.disk c.idle.new.self (c.idle.ensures.answers clean).kept),
      λ clean. subst (λ (n : ℕ). TakesTurns n c.args.disk.now c.idle.new.self) next
          (takes_more c.loop-turn._turn c.args.disk.now c.loop-turn.disk c.idle.new.self (so_far.3 (was clean))
          (takes_one c.loop-turn.disk c.idle.new.self (c.in_ok-idle.ensures.answers clean).kept ((c.in_ok-idle.ensures.turn clean).turn (done clean).1) ((c.in_ok-idle.ensures.turn clean).turns (done clean).1) c.in_ok-idle.ensures.completed)),
      λ clean. (c.idle.ensures.answers clean).durable ∙ so_far.4 (was clean),
      alike_join c.args.disk.now c.loop-turn.disk c.idle.new.self so_far.5 c.idle.ensures.alike,
      omega (arith, so_far.6, c.idle.ensures.completed),
    )

pub returns-clause-flat : goal.returns-clause-flat
returns-clause-flat g c = λ clean.
    rw (c.loop-turn.invariant.0 clean)
    (turns_done c.args.turns (flat_of c.args.disk.now) (λ some. c.loop-turn.invariant.1 clean (omega (arith, some, c.loop-turn-test.false))))

pub returns-in_err-idle-clause-flat : goal.returns-in_err-idle-clause-flat
returns-in_err-idle-clause-flat g c = λ clean.
    let was = c.idle.ensures.alike.shape.trusted clean in
    turns_stop c.args.turns c.loop-turn._turn (flat_of c.args.disk.now) (flat_of c.loop-turn.disk) (flat_of c.idle.new.self) c.in_err-idle.field-0.0 c.from_residual.result (search rules) c.loop-turn-test.true (c.loop-turn.invariant.0 was) (c.loop-turn.invariant.1 was) (c.in_err-idle.ensures.answers clean).flat

pub returns-in_err-idle-clause-turns : goal.returns-in_err-idle-clause-turns
returns-in_err-idle-clause-turns g c = λ clean.
    turns_fewer c.args.turns c.args.disk.now c.idle.new.self c.in_err-idle.field-0.0 c.from_residual.result (search rules) (record {
      done = c.loop-turn._turn;
      few = omega (arith, c.loop-turn-test.true);
      middle = c.loop-turn.disk;
      before = c.loop-turn.invariant.3 (c.idle.ensures.alike.shape.trusted clean);
      turn = (c.in_err-idle.ensures.turn clean).turn;
      turns = (c.in_err-idle.ensures.turn clean).refused;
      completed = c.in_err-idle.ensures.completed;
    })

pub returns-in_err-idle-clause-keeps : goal.returns-in_err-idle-clause-keeps
returns-in_err-idle-clause-keeps g c = λ clean.
    keeps_again c.args.disk.now c.loop-turn.disk c.idle.new.self (c.loop-turn.invariant.2 (c.idle.ensures.alike.shape.trusted clean)) (keeps_call c.loop-turn.disk c.idle.new.self (c.idle.ensures.answers clean).kept)

-- no turn is due, and none becomes due
pub returns-then-not-is_cleaning-clause-flat : goal.returns-then-not-is_cleaning-clause-flat
returns-then-not-is_cleaning-clause-flat g c = λ clean.
    let was = c.idle.ensures.alike.shape.trusted clean in
    let done = idle_unchanged (flat_of c.loop-turn.disk) (flat_of c.idle.new.self) (c.in_ok-idle.ensures.answers clean).flat in
    rw (done.0 ∙ c.loop-turn.invariant.0 was)
    (turns_done c.args.turns (flat_of c.args.disk.now) (λ some. sym (ap (λ (d : FlatDisk). d.status) (c.loop-turn.invariant.0 was)) ∙ done.1))

pub returns-then-not-is_cleaning-clause-turns : goal.returns-then-not-is_cleaning-clause-turns
returns-then-not-is_cleaning-clause-turns g c = λ clean.
    let done = idle_unchanged (flat_of c.loop-turn.disk) (flat_of c.idle.new.self) (c.in_ok-idle.ensures.answers clean).flat in
    takes_rest c.args.turns c.loop-turn._turn c.args.disk.now c.loop-turn.disk c.idle.new.self c.loop-turn-test.true (c.loop-turn.invariant.3 (c.idle.ensures.alike.shape.trusted clean))
    (takes_one c.loop-turn.disk c.idle.new.self (c.in_ok-idle.ensures.answers clean).kept ((c.in_ok-idle.ensures.turn clean).turn done.1) ((c.in_ok-idle.ensures.turn clean).turns done.1) c.in_ok-idle.ensures.completed)
    (search rules) (search rules)

pub returns-then-not-is_cleaning-clause-keeps : goal.returns-then-not-is_cleaning-clause-keeps
returns-then-not-is_cleaning-clause-keeps g c = λ clean.
    keeps_again c.args.disk.now c.loop-turn.disk c.idle.new.self (c.loop-turn.invariant.2 (c.idle.ensures.alike.shape.trusted clean)) (keeps_call c.loop-turn.disk c.idle.new.self (c.idle.ensures.answers clean).kept)

pub returns-in_err-idle-clause-alike : goal.returns-in_err-idle-clause-alike
returns-in_err-idle-clause-alike g c = alike_join c.args.disk.now c.loop-turn.disk c.idle.new.self c.loop-turn.invariant.5 c.idle.ensures.alike

pub returns-then-not-is_cleaning-clause-alike : goal.returns-then-not-is_cleaning-clause-alike
returns-then-not-is_cleaning-clause-alike g c = alike_join c.args.disk.now c.loop-turn.disk c.idle.new.self c.loop-turn.invariant.5 c.idle.ensures.alike

pub returns-in_err-idle-clause-completed : goal.returns-in_err-idle-clause-completed
returns-in_err-idle-clause-completed g c = omega (arith, c.loop-turn.invariant.6, c.idle.ensures.completed, c.loop-turn-test.true)

pub returns-then-not-is_cleaning-clause-completed : goal.returns-then-not-is_cleaning-clause-completed
returns-then-not-is_cleaning-clause-completed g c = omega (arith, c.loop-turn.invariant.6, c.idle.ensures.completed, c.loop-turn-test.true)

pub returns-clause-completed : goal.returns-clause-completed
returns-clause-completed g c = omega (arith, c.loop-turn.invariant.6, c.loop-turn-test.false)
