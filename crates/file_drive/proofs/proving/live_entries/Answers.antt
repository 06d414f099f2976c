use Rattle.std.proofs.Common.{◌∙◌, length, sym, ap, arith}
use Rattle.std.proofs.lemmas.List.{length-map}
use Rattle.file_drive.specs.Layout.{at_table}
use Rattle.file_drive.specs.Tables.{entry_of}
use Rattle.file_drive.proofs.PartLaws.{length-words}
use Rattle.file_drive.proofs.proving.live_entries.Goals as goal

pub are_proved-requires-clause-flushed : goal.are_proved-requires-clause-flushed
are_proved-requires-clause-flushed g c =
    let geometry = c.args.geometry.now in
    rw c.deref.ensures.value (sym (ap length c.requires.tables.safe) ∙ length-words (g.F.FileBytes.seen c.args.file.now) (at_table geometry c.args.tables.now.flushed) geometry.zones)

pub are_proved-requires-clause-words : goal.are_proved-requires-clause-words
are_proved-requires-clause-words g c =
    let geometry = c.args.geometry.now in
    rw c.deref-2.ensures.value (sym (ap length c.requires.tables.current) ∙ length-words (g.F.FileBytes.seen c.args.file.now) (at_table geometry c.args.tables.now.live) geometry.zones)

pub are_few-requires : goal.are_few-requires
are_few-requires g c =
    let geometry = c.args.geometry.now in
    let words = c.args.tables.now.current.items in
    let count = sym (ap length c.requires.tables.current) ∙ length-words (g.F.FileBytes.seen c.args.file.now) (at_table geometry c.args.tables.now.live) geometry.zones in
    rw (c.deref-4.ensures.value, c.in_ok-entries.ensures, c.deref-3.ensures.value) (omega (arith, length-map words entry_of, count, c.requires.in_range.zones.1))
