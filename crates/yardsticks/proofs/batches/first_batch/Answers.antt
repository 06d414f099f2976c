use Rattle.std.proofs.Common.{take, arith, sym, ap, ◌∙◌, ℕ}
use Rattle.std.proofs.lemmas.List.{take-map, length-map}
use Rattle.batch_log.specs.Header.{heading_of}
use Rattle.batch_log.specs.Log.{data_count}
use Rattle.yardsticks.specs.Batches.{held_blocks}
use Rattle.yardsticks.proofs.BatchReading.{begin_with_header, begin_with, too_few}
use Rattle.yardsticks.proofs.batches.first_batch.Goals as goal

pub returns-then-after-count-clause-none : goal.returns-then-after-count-clause-none
returns-then-after-count-clause-none c =
    let is = rw c.in-Some-2.is at c.in_ok-header.ensures.some in
    let begin = begin_with_header c.args.block_bytes c.args.blocks.now c.in-Some.block.now c.in-Some.after.now c.deref.result.now (heading_of c.in-Some-2.header) c.requires.sizes c.in-Some.ensures.cases.0 c.deref.ensures.value is in
    let count = rw c.deref-2.ensures.value at c.data_blocks-count.ensures in
    too_few c.args.block_bytes _ _ _ c.requires.size begin (omega (arith, length-map c.in-Some.after.now (λ b. b.items)))

pub returns-clause-some : goal.returns-clause-some
returns-clause-some c =
    let is = rw c.in-Some-2.is at c.in_ok-header.ensures.some in
    let begin = begin_with_header c.args.block_bytes c.args.blocks.now c.in-Some.block.now c.in-Some.after.now c.deref.result.now (heading_of c.in-Some-2.header) c.requires.sizes c.in-Some.ensures.cases.0 c.deref.ensures.value is in
    let count = rw c.deref-2.ensures.value at c.data_blocks-count.ensures in
    begin_with c.args.block_bytes _ _ _ _ begin (omega (arith, length-map c.in-Some.after.now (λ b. b.items)))
    (c.in_ok-body.ensures ∙ ap (λ (n : ℕ). held_blocks (take n c.in-Some.after.now)) count ∙ sym (take-map (λ b. b.items) (data_count c.in-Some-2.header.entries.items) c.in-Some.after.now))
