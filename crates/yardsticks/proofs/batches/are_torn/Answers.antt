use Rattle.std.proofs.Common.{refl}
use Rattle.batch_log.specs.Header.{heading_of}
use Rattle.yardsticks.specs.Batches.{held_blocks}
use Rattle.yardsticks.proofs.BatchReading.{begin_with_header}
use Rattle.yardsticks.proofs.RestLaws.{torn_is}
use Rattle.yardsticks.proofs.batches.are_torn.Goals as goal

pub returns : goal.returns
returns c =
    let is = rw c.in-Some-2.is at c.in_ok-_header.ensures.some in
    let begin = begin_with_header c.args.block_bytes c.args.blocks.now c.in-Some.block.now _ c.deref.result.now (heading_of c.in-Some-2._header) c.requires.sizes c.in-Some.ensures.cases.0 c.deref.ensures.value is in
    (λ _. torn_is c.args.block_bytes (held_blocks c.args.blocks.now) _ (heading_of c.in-Some-2._header) begin c.requires.none, λ _. refl)
