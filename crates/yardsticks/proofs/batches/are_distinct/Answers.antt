use Rattle.std.proofs.Common.{refl, sym}
use Rattle.std.proofs.lemmas.Bool.{false≢true}
use Rattle.yardsticks.proofs.DistinctLaws.{distinct_end, distinct_more, distinct_not}
use Rattle.yardsticks.proofs.batches.are_distinct.Goals as goal

pub returns-then-is_named : goal.returns-then-is_named
returns-then-is_named c = (λ e. absurd (false≢true e), λ h. absurd (distinct_not c.args.entries.now c.loop-i.i _ c.loop-i-test.true (sym c.if-is_named.ensures) (c.loop-i.invariant.0 h)))

pub loop-i-preserved : goal.loop-i-preserved
loop-i-preserved c =
    let step = distinct_more c.args.entries.now c.loop-i.i _ c.loop-i-test.true (sym c.if-is_named.ensures) in
    (λ h. step.0 (c.loop-i.invariant.0 h), λ h. c.loop-i.invariant.1 (step.1 h))

pub returns : goal.returns
returns c = (λ e. c.loop-i.invariant.1 (distinct_end c.args.entries.now c.loop-i.i c.loop-i-test.false), λ h. refl)
