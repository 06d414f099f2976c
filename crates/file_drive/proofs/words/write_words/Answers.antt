use Rattle.std.proofs.Common.{◌≡◌, ◌*◌, ◌<◌, ◌∙◌, ap, length, map, slice_index, sym, arith}
use Rattle.std.proofs.lemmas.List.{get_or-map, length-map, length-set, take_all}
use Rattle.file_drive.specs.Tables.{next_entries, word_of}
use Rattle.file_drive.specs.InFile.{flushed_at}
use Rattle.file_drive.proofs.ApartLaws.{length-next, next-at}
use Rattle.file_drive.proofs.PartLaws.{beside-both, follows-both, put-next}
use Rattle.file_drive.proofs.words.write_words.Goals as goal

pub loop-index-preserved : goal.loop-index-preserved
loop-index-preserved g c =
    let n = length c.args.entries.now in
    let inv = c.loop-index.invariant in
    let next = next_entries c.args.action c.args.flushed.now c.args.entries.now in
    let wanted = map word_of next in
    let index = c.loop-index.index in
    let low : c.loop-index.index < length c.loop-index.words.items = omega (arith, c.loop-index-test.true, inv.0) in
    let low' : c.loop-index.index < length wanted = omega (arith, c.loop-index-test.true, length-map next word_of, length-next c.args.action c.args.flushed.now c.args.entries.now) in
    let many : index < length c.args.flushed.now = omega (arith, c.loop-index-test.true, c.requires.flushed) in
    let last : c.of_word.result ≡ flushed_at c.args.flushed.now index = c.of_word.ensures in
    let here = (rw last at c.next-next.ensures) ∙ sym (next-at c.args.action c.args.flushed.now c.args.entries.now index _ many c.loop-index-test.true) in
    let is : c.word.result ≡ slice_index wanted index =
    c.word.ensures ∙ ap word_of here ∙ sym (get_or-map word_of next index _ 0 (omega (arith, c.loop-index-test.true, length-next c.args.action c.args.flushed.now c.args.entries.now))) in (
      ap length c.in_ok-put_in_table.ensures.ok ∙ length-set c.loop-index.words.items c.loop-index.index _ ∙ inv.0,
      rw (← inv.0) c.put_in_table.ensures.known,
      rw (c.in_ok-put_in_table.ensures.ok, is) (put-next c.loop-index.words.items wanted c.loop-index.index low low' inv.2),
      beside-both c.args.at (8 * n) _ _ _ inv.3 (rw inv.0 at c.put_in_table.ensures.beside),
      follows-both c.args.at (8 * n) _ _ _ inv.4 (rw inv.0 at c.put_in_table.ensures.leaves),
      c.put_in_table.ensures.usable ∙ inv.5,
    )

pub returns-clause-ok : goal.returns-clause-ok
returns-clause-ok g c =
    let next = next_entries c.args.action c.args.flushed.now c.args.entries.now in
    let index = c.loop-index.index in
    let inv = c.loop-index.invariant in
    sym (take_all index c.loop-index.words.items (omega (arith, c.loop-index-test.false, inv.0)))
    ∙ inv.2
    ∙ take_all index (map word_of next) (omega (arith, c.loop-index-test.false, length-map next word_of, length-next c.args.action c.args.flushed.now c.args.entries.now))
