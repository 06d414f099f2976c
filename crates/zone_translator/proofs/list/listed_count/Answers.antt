use Rattle.std.proofs.Common.{◌<◌, ◌∙◌, false, length, sym, arith}
use Rattle.batch_log.specs.declared.header.Entry.{Entry}
use Rattle.zone_translator.proofs.ListedLaws.{take-full, take-trim}
use Rattle.zone_translator.proofs.list.listed_count.Goals as goal

pub loop-taken-preserved-then-entries-taken : goal.loop-taken-preserved-then-entries-taken
loop-taken-preserved-then-entries-taken c =
    let none : Entry = record { block = 0; trim = false } in
    let was = c.loop-taken.invariant in
    let lt : c.loop-taken.taken.entries < length c.args.entries.now = omega (arith, c.loop-taken-test.true, c.min-most.ensures) in
    let same = take-trim c.loop-taken.taken.entries c.args.entries.now none lt c.if-entries-taken.true in
    (omega (arith, c.loop-taken-test.true), was.1 ∙ sym same, was.2)

pub loop-taken-preserved : goal.loop-taken-preserved
loop-taken-preserved c =
    let none : Entry = record { block = 0; trim = false } in
    let was = c.loop-taken.invariant in
    let lt : c.loop-taken.taken.entries < length c.args.entries.now = omega (arith, c.loop-taken-test.true, c.min-most.ensures) in
    let more = take-full c.loop-taken.taken.entries c.args.entries.now none lt c.if-entries-taken.false in
    (omega (arith, c.loop-taken-test.true), omega (arith, was.1, more), omega (arith, c.if-taken-room.true))
