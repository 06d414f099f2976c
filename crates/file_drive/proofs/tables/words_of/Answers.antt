use Rattle.std.proofs.Common.{◌≡◌, ◌+◌, ◌*◌, suc, arith}
use Rattle.file_drive.proofs.PartLaws.{words-next}
use Rattle.file_drive.proofs.tables.words_of.Goals as goal

pub loop-index-preserved : goal.loop-index-preserved
loop-index-preserved c =
    let index = c.loop-index.index in
    let next : index + 1 ≡ suc index = omega arith in
    let here : 0 + 8 * index ≡ 8 * index = omega arith in
    rw (next, words-next c.args.bytes.now 0 index, here, ← c.loop-index.invariant, ← c.word_at.ensures) c.in_ok-push.ensures.items
