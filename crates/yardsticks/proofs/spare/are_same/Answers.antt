use Rattle.std.proofs.Common.{◌∙◌, sym, arith}
use Rattle.std.proofs.lemmas.Bool.{false≢true}
use Rattle.yardsticks.proofs.SpareLaws.{same-at}
use Rattle.yardsticks.proofs.spare.are_same.Goals as goal

pub returns-then-not-is_same : goal.returns-then-not-is_same
returns-then-not-is_same c = (
  λ e. absurd (false≢true e),
  λ same.
      let items = same-at c.args.blocks.now c.args.others.now c.loop-i.i c.index-blocks-i.result c.index-others-i.result c.loop-i-test.true (omega arith) c.index-blocks-i.is c.index-others-i.is same in
      c.if-not-is_same.ensures.1 (c.deref.ensures.value ∙ items ∙ sym c.deref-in-loop-i.ensures.value),
)
