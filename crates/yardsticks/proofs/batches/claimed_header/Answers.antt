use Rattle.std.proofs.Common.{◌≡◌, length, arith}
use Rattle.batch_log.specs.Reading.{heading_in}
use Rattle.yardsticks.proofs.HeaderReading.{count_read, heading_read}
use Rattle.yardsticks.proofs.batches.claimed_header.Goals as goal

pub returns-then-count-block-clause-none : goal.returns-then-count-block-clause-none
returns-then-count-block-clause-none c =
    let count : length (heading_in c.args.block.now).entries ≡ c.read_u32-count.result = count_read c.args.block.now c.read_u32-count.result c.read_u32-count.ensures in
    omega arith

pub returns-clause-some : goal.returns-clause-some
returns-clause-some c =
    heading_read c.args.block.now _ _ _ _ _ _ c.read_u32-count.ensures c.kind_at.ensures c.read_u64.ensures c.read_u32.ensures c.size_at.ensures c.in_ok-entries_at.ensures
