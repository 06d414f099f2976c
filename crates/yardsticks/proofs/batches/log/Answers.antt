use Rattle.std.proofs.Common.{sym, ◌∙◌}
use Rattle.std.proofs.lemmas.Bool.{false≢true}
use Rattle.yardsticks.proofs.RestLaws.{batch_ends, batch_read, log_found, none_left, sizes_behind}
use Rattle.yardsticks.proofs.batches.log.Goals as goal

pub split_at-requires : goal.split_at-requires
split_at-requires c =
    let begin = rw c.in-Some.is at c.in_ok-batch.ensures.some in
    batch_ends c.args.block_bytes c.loop-batches.rest.now c.in-Some.batch c.len.result begin c.len.ensures

pub loop-batches-preserved : goal.loop-batches-preserved
loop-batches-preserved c =
    let begin = rw c.in-Some.is at c.in_ok-batch.ensures.some in
    record {
      so_far = batch_read _ _ c.loop-batches.batches.items _ c.loop-batches.rest.now c.split_at.result.1.now c.in-Some.batch c.len.result c.loop-batches.invariant.so_far begin c.in_ok-push.ensures.items c.len.ensures c.split_at.ensures.back;
      sizes = rw c.split_at.ensures.back (sizes_behind _ _ c.loop-batches.rest.now c.loop-batches.invariant.sizes);
    }

pub returns-then-not-branch-clause-none : goal.returns-then-not-branch-clause-none
returns-then-not-branch-clause-none c =
    none_left _ _ _ _ _ c.requires.size c.loop-batches.invariant.so_far (rw c.in_default.is at c.in_ok-batch.ensures.none) (λ tail. false≢true (sym c.if-not-branch.true ∙ c.in_ok-are_tail.ensures.1 tail))

pub returns-in_default-clause-some : goal.returns-in_default-clause-some
returns-in_default-clause-some c =
    log_found _ _ _ _ _ c.requires.size c.loop-batches.invariant.so_far (c.in_ok-are_tail.ensures.0 c.if-not-branch.false) c.is_torn_left-is_torn.ensures
