use Rattle.std.proofs.Common.{◌≡◌, ◌<◌, ◌∙◌, length, map, slice_index, sym, arith}
use Rattle.std.proofs.lemmas.List.{get_or-map, length-map, length-set}
use Rattle.file_drive.specs.Tables.{word_of}
use Rattle.file_drive.proofs.PartLaws.{put-next}
use Rattle.file_drive.proofs.words.note_words.Goals as goal

pub loop-index-preserved : goal.loop-index-preserved
loop-index-preserved c =
    let inv = c.loop-index.invariant in
    let wanted = map word_of c.args.entries.now in
    let low : c.loop-index.index < length c.loop-index.words.items = omega (arith, c.loop-index-test.true, inv.0) in
    let low' : c.loop-index.index < length wanted = omega (arith, c.loop-index-test.true, length-map c.args.entries.now word_of) in
    let is : c.word.result ≡ slice_index wanted c.loop-index.index =
    c.word.ensures ∙ sym (get_or-map word_of c.args.entries.now c.loop-index.index _ 0 c.loop-index-test.true) in
    (length-set c.loop-index.words.items c.loop-index.index _ ∙ inv.0, rw is (put-next c.loop-index.words.items wanted c.loop-index.index low low' inv.1))
