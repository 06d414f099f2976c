use Rattle.std.proofs.Common.{◌≡◌, ◌≢◌, ℕ, ◌+◌, ◌*◌, ◌≤◌, ◌<◌, [], None, true, length, arith, ap, sym, subst, ◌∙◌}
use Rattle.std.specs.Prelude.{IsFalse, IsTrue}
use Rattle.std.proofs.lemmas.Bool.{eq-eqb}
use Rattle.zone_choice.specs.Agreement.{MountedView}
use Rattle.zone_cleaner.specs.Answering.{CostsClean}
use Rattle.zone_cleaner.specs.Start.{CanTake, unfinished}
use Rattle.zone_cleaner.proofs.BudgetLaws.{first-round, round-more, rounds-most}
use Rattle.zone_cleaner.proofs.SaneLaws.{stays-more, stays-same}
use Rattle.zone_cleaner.proofs.SoFarLaws.{HasTried, round-found, tried-found, tried-more, tried-none, tried-over, tried-refused}
use Rattle.zone_cleaner.proofs.cleaner.Cleaner.clean_zone.Goals as goal

pub loop-init : goal.loop-init
loop-init g c = (
  stays-same c.args.disk.now c.requires.sane,
  omega arith,
  λ clean. tried-none c.args.disk.now c.args.self.now (c.requires.cleaned clean) c.requires.lacks,
  λ one. absurd (omega (arith, one)),
)

pub returns-in-Err-clause-answers : goal.returns-in-Err-clause-answers
returns-in-Err-clause-answers g c = λ clean.
    let round = c.in-Err.ensures in
    tried-refused c.args.disk.now c.loop.disk c.take_turns.new.disk c.args.self.now c.loop.self c.take_turns.new.self c.in-Err.fault (c.loop.invariant.2 (round.stays.shape.trusted clean)) (round.answers clean)

pub returns-then-finds_zone-clause-answers : goal.returns-then-finds_zone-clause-answers
returns-then-finds_zone-clause-answers g c = λ clean.
    let round = c.in_default.ensures in
    let host = (stays-more c.args.disk.now c.loop.disk c.take_turns.new.disk c.loop.invariant.0 round.stays).host c.requires.lacks.host in
    tried-found c.args.disk.now c.loop.disk c.take_turns.new.disk c.args.self.now c.loop.self c.take_turns.new.self (c.loop.invariant.2 (round.stays.shape.trusted clean)) (round.answers clean) host
    (subst (λ (m : MountedView). (c.take_turns.new.self ≡ None) × CanTake m.tables.roles) c.disk-in-loop.view_is (c.finds_zone.ensures.some c.if-finds_zone.true))

pub loop-preserved : goal.loop-preserved
loop-preserved g c =
    let round = c.in_default.ensures in
    let lost : c.take_turns.new.disk.tables.unreadable ≢ [] = λ none. (let bad = sym c.if-is_empty.false ∙ c.is_empty.ensures ∙ eq-eqb _ 0 (ap length (c.unreadable.ensures ∙ ap (λ (m : MountedView). m.tables.unreadable) c.disk-in-loop.view_is ∙ none)) in absurd (cc)) in (
      stays-more c.args.disk.now c.loop.disk c.take_turns.new.disk c.loop.invariant.0 round.stays,
      round-more c.loop.counter (2 * c.args.disk.now.drive.geometry.capacity) c.loop.disk.drive.completed c.args.disk.now.drive.completed c.take_turns.new.disk.drive.completed c.loop.invariant.1 (rw c.loop.invariant.0.shape.geometry at round.completed),
      λ clean. tried-more c.args.disk.now c.loop.disk c.take_turns.new.disk c.args.self.now c.loop.self c.take_turns.new.self (c.loop.invariant.2 (round.stays.shape.trusted clean)) (round.answers clean) lost,
      λ one. lost,
    )
