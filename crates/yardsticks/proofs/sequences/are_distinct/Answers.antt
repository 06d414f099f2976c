use Rattle.std.proofs.Common.{refl, sym}
use Rattle.std.proofs.lemmas.Bool.{false≢true}
use Rattle.yardsticks.proofs.SequenceLaws.{distinct-end, distinct-more, distinct-not}
use Rattle.yardsticks.proofs.sequences.are_distinct.Goals as goal

pub returns-then-contains : goal.returns-then-contains
returns-then-contains c = (λ e. absurd (false≢true e), λ h. absurd (distinct-not c.args.numbers.now c.loop-i.i _ c.loop-i-test.true (sym c.if-contains.ensures.value) (c.loop-i.invariant.0 h)))

pub loop-i-preserved : goal.loop-i-preserved
loop-i-preserved c =
    let step = distinct-more c.args.numbers.now c.loop-i.i _ c.loop-i-test.true (sym c.if-contains.ensures.value) in
    (λ h. step.0 (c.loop-i.invariant.0 h), λ h. c.loop-i.invariant.1 (step.1 h))

pub returns : goal.returns
returns c = (λ e. c.loop-i.invariant.1 (distinct-end c.args.numbers.now c.loop-i.i c.loop-i-test.false), λ h. refl)
