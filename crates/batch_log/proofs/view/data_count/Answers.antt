use Rattle.std.proofs.Common.{◌≤◌, arith}
use Rattle.batch_log.specs.Log.{one_unless}
use Rattle.batch_log.proofs.EntryLaws.{data_more, few-data}
use Rattle.batch_log.proofs.view.data_count.Goals as goal

pub loop-i-preserved : goal.loop-i-preserved
loop-i-preserved c =
    let more = data_more c.args.count c.loop-i.i c.args.bytes.now c.entry_at.result c.loop-i-test.true c.entry_at.ensures.value in
    let few : one_unless c.entry_at.result.trim ≤ 1 = few-data c.entry_at.result.trim in
    record { counted = omega (arith, more, c.one_unless-blocks.ensures, c.loop-i.invariant.counted); few = omega (arith, few, c.one_unless-blocks.ensures, c.loop-i.invariant.few) }

pub overflow_add-blocks : goal.overflow_add-blocks
overflow_add-blocks c =
    let few : one_unless c.entry_at.result.trim ≤ 1 = few-data c.entry_at.result.trim in
    omega (arith, few, c.one_unless-blocks.ensures, c.loop-i.invariant.few)
