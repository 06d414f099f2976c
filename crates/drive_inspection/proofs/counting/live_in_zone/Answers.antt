use Rattle.std.proofs.Common.{arith}
use Rattle.drive_inspection.proofs.CountLaws.{live-to-end, live-to-next, live-to-none}
use Rattle.drive_inspection.proofs.counting.live_in_zone.Goals as goal

pub loop-block-init : goal.loop-block-init
loop-block-init c = live-to-none c.args.tables.now c.args.zone

pub counting_record-live-requires : goal.counting_record-live-requires
counting_record-live-requires c =
    let next = live-to-next c.args.tables.now c.loop-block.tables c.first_record.new.self c.args.zone c.loop-block.live c.loop-block.from c.in-Some.block c.in-Some.place c.loop-block.invariant c.in-Some.ensures.first c.first_record.ensures.kept in
    omega (arith, next.fits, c.requires.few)

pub overflow_add-from : goal.overflow_add-from
overflow_add-from c =
    let next = live-to-next c.args.tables.now c.loop-block.tables c.first_record.new.self c.args.zone c.loop-block.live c.loop-block.from c.in-Some.block c.in-Some.place c.loop-block.invariant c.in-Some.ensures.first c.first_record.ensures.kept in
    omega (arith, next.in_range, c.requires.few)

pub loop-block-smaller : goal.loop-block-smaller
loop-block-smaller c =
    let next = live-to-next c.args.tables.now c.loop-block.tables c.first_record.new.self c.args.zone c.loop-block.live c.loop-block.from c.in-Some.block c.in-Some.place c.loop-block.invariant c.in-Some.ensures.first c.first_record.ensures.kept in
    omega (arith, next.in_range, next.after)

pub loop-block-preserved : goal.loop-block-preserved
loop-block-preserved c =
    let next = live-to-next c.args.tables.now c.loop-block.tables c.first_record.new.self c.args.zone c.loop-block.live c.loop-block.from c.in-Some.block c.in-Some.place c.loop-block.invariant c.in-Some.ensures.first c.first_record.ensures.kept in
    rw c.counting_record-live.ensures next.more

pub returns-clause-written : goal.returns-clause-written
returns-clause-written c = (live-to-end c.args.tables.now c.loop-block.tables c.args.zone c.loop-block.live c.loop-block.from c.loop-block.invariant c.in_default.ensures.first).written

pub returns-clause-all : goal.returns-clause-all
returns-clause-all c = (live-to-end c.args.tables.now c.loop-block.tables c.args.zone c.loop-block.live c.loop-block.from c.loop-block.invariant c.in_default.ensures.first).all
