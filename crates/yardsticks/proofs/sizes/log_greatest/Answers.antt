use Rattle.std.proofs.Common.{◌≡◌, ◌+◌, ◌∙◌, ◌∷◌, drop, [], ap, sym}
use Rattle.std.proofs.lemmas.List.{drop_all, drop_more}
use Rattle.drive_array.proofs.SizeLaws.{larger-none}
use Rattle.yardsticks.proofs.GreatestLaws.{log_greatest-step}
use Rattle.yardsticks.proofs.sizes.log_greatest.Goals as goal

pub loop-batch-preserved : goal.loop-batch-preserved
loop-batch-preserved c =
    let log = c.args.log.now in
    let i = c.loop-batch.batch-index in
    log_greatest-step i log _ _ _ c.batch-item.result (drop_more log i c.batch-item.result c.loop-batch-test.true ∙ ap (λ b. b ∷ drop (i + 1) log) (sym c.batch-item.is)) c.loop-batch.invariant c.larger-found.ensures

pub returns : goal.returns
returns c =
    let log = c.args.log.now in
    let done : drop c.loop-batch.batch-index log ≡ [] = drop_all c.loop-batch.batch-index log c.loop-batch-test.false in
    sym (larger-none c.loop-batch.found) ∙ (rw done at c.loop-batch.invariant)
