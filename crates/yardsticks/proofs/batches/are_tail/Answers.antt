use Rattle.std.proofs.Common.{inr}
use Rattle.std.proofs.lemmas.Result.{IfOk-weaker}
use Rattle.yardsticks.proofs.RestLaws.{tail_of_zeros, tail_torn, zeros_of_tail}
use Rattle.yardsticks.proofs.batches.are_tail.Goals as goal

pub returns-then-is_full : goal.returns-then-is_full
returns-then-is_full c = (
  λ e. rw c.if-is_full.true (tail_of_zeros c.args.block_bytes c.args.blocks.now c.requires.sizes (c.are_zero.ensures.0 e)),
  λ is. c.are_zero.ensures.1 (zeros_of_tail c.args.block_bytes c.args.blocks.now c.requires.sizes (rw c.if-is_full.true at is)),
)

pub returns : goal.returns
returns c = rw c.if-is_full.false (IfOk-weaker c.are_torn.result _ _ (λ b torn. (
  λ e. inr (torn.0 e),
  λ tail. torn.1 (tail_torn c.args.block_bytes c.args.blocks.now c.is_empty.result c.if-is_empty.false c.is_empty.ensures tail),
)) c.are_torn.ensures)
