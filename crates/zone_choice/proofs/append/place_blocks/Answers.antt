use Rattle.std.proofs.Common.{false, get_or, refl, arith}
use Rattle.batch_log.specs.declared.header.Entry.{Entry}
use Rattle.batch_log.proofs.EntryLaws.{few-data}
use Rattle.batch_log.proofs.LentLaws.{data-few}
use Rattle.zone_choice.proofs.BuilderLaws.{entry_place-fits, placing-more}
use Rattle.zone_choice.proofs.append.place_blocks.Goals as goal

pub overflow_add-address-in-loop-entry : goal.overflow_add-address-in-loop-entry
overflow_add-address-in-loop-entry c =
    let none : Entry = record { block = 0; trim = false } in
    let entry = get_or c.args.entries.now c.loop-entry.entry-index none in
    let was = c.loop-entry.invariant in
    omega (arith, was.data_left, data-few c.args.entries.now, c.data_blocks-address.ensures, few-data entry.trim, c.requires.few, c.requires.fits)

pub loop-entry-preserved : goal.loop-entry-preserved
loop-entry-preserved c =
    let none : Entry = record { block = 0; trim = false } in
    let entry = get_or c.args.entries.now c.loop-entry.entry-index none in
    placing-more c.args.header c.args.entries.now c.args.tables.now c.loop-entry.tables c.place.new.self c.loop-entry.address c.loop-entry.entry-index entry none c.place_of.result c.data_blocks-address.result
    c.loop-entry.invariant c.requires.distinct c.loop-entry-test.true refl c.place_of.ensures c.data_blocks-address.ensures c.place.ensures

pub overflow_cast-result : goal.overflow_cast-result
overflow_cast-result c =
    let was = c.loop-entry.invariant in
    omega (arith, was.data_left, data-few c.args.entries.now, c.requires.few)

pub place-requires-clause-fits : goal.place-requires-clause-fits
place-requires-clause-fits c =
    let none : Entry = record { block = 0; trim = false } in
    let entry = get_or c.args.entries.now c.loop-entry.entry-index none in
    let was = c.loop-entry.invariant in
    rw c.place_of.ensures (entry_place-fits entry.trim c.args.header c.loop-entry.address was.above (omega (arith, was.data_left, data-few c.args.entries.now, c.requires.few, c.requires.fits)))
