use Rattle.std.proofs.Common.{arith}
use Rattle.remount.proofs.TornLaws.{live-end, live-next}
use Rattle.remount.proofs.repair.torn.live_blocks.Goals as goal

pub overflow_add-from : goal.overflow_add-from
overflow_add-from c =
    let next = live-next c.args.tables.now c.loop-block.tables c.first_record.new.self c.args.zone c.loop-block.blocks.items c.loop-block.with_data c.loop-block.from c.in-Some.block c.in-Some.place c.loop-block.invariant c.in-Some.ensures.first c.first_record.ensures.kept in
    omega (arith, next.in_range, c.requires.few)

pub loop-block-smaller : goal.loop-block-smaller
loop-block-smaller c =
    let next = live-next c.args.tables.now c.loop-block.tables c.first_record.new.self c.args.zone c.loop-block.blocks.items c.loop-block.with_data c.loop-block.from c.in-Some.block c.in-Some.place c.loop-block.invariant c.in-Some.ensures.first c.first_record.ensures.kept in
    omega (arith, next.in_range, next.after)

pub loop-block-preserved : goal.loop-block-preserved
loop-block-preserved c =
    let next = live-next c.args.tables.now c.loop-block.tables c.first_record.new.self c.args.zone c.loop-block.blocks.items c.loop-block.with_data c.loop-block.from c.in-Some.block c.in-Some.place c.loop-block.invariant c.in-Some.ensures.first c.first_record.ensures.kept in
    rw (c.in_ok-push.ensures.items, c.data_blocks-with_data.ensures) next.more

pub returns-clause-blocks : goal.returns-clause-blocks
returns-clause-blocks c = (live-end c.args.tables.now c.loop-block.tables c.args.zone c.loop-block.blocks.items c.loop-block.with_data c.loop-block.from c.loop-block.invariant c.in_default.ensures.first).blocks_are

pub returns-clause-data : goal.returns-clause-data
returns-clause-data c = (live-end c.args.tables.now c.loop-block.tables c.args.zone c.loop-block.blocks.items c.loop-block.with_data c.loop-block.from c.loop-block.invariant c.in_default.ensures.first).data_is
