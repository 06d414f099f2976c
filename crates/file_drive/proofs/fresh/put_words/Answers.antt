use Rattle.std.proofs.Common.{rules, ◌+◌, ◌*◌, ◌<◌, ◌∙◌, length, slice_index, arith}
use Rattle.std.specs.Int.{w64, to_le_bytes}
use Rattle.sqlite_disk.specs.Disk.{Holds}
use Rattle.file_drive.proofs.FormatLaws.{next-word}
use Rattle.file_drive.proofs.PartLaws.{beside-both, beside-wider, follows-both, word-held}
use Rattle.file_drive.proofs.StoringLaws.{follows-wider}
use Rattle.file_drive.proofs.fresh.put_words.Goals as goal

pub loop-index-preserved : goal.loop-index-preserved
loop-index-preserved g c =
    let words = c.args.words.now in
    let index = c.loop-index.index in
    let old = g.F.FileBytes.seen c.loop-index.file in
    let new = g.F.FileBytes.seen c.write_word.new.self in
    let at = c.args.at + 8 * index in
    let low : index < length words = omega (arith, c.loop-index-test.true) in
    let put : Holds new at (to_le_bytes w64 (slice_index words index)) = search rules in (
      next-word old new words c.args.at index low c.write_word.ensures.others (word-held new at (slice_index words index) (c.type_inv.words index).fits put) c.loop-index.invariant.0,
      beside-both c.args.at (8 * length words) (g.F.FileBytes.seen c.args.file.now) old new c.loop-index.invariant.1
          (beside-wider at 8 c.args.at (8 * length words) old new c.write_word.ensures.others (omega arith) (omega (arith, low))),
      c.write_word.ensures.usable ∙ c.loop-index.invariant.2,
      follows-both c.args.at (8 * length words) (g.F.FileBytes.may_leave c.args.file.now) (g.F.FileBytes.may_leave c.loop-index.file) (g.F.FileBytes.may_leave c.write_word.new.self) c.loop-index.invariant.3
          (follows-wider at 8 c.args.at (8 * length words) (g.F.FileBytes.may_leave c.loop-index.file) (g.F.FileBytes.may_leave c.write_word.new.self) c.write_word.ensures.leaves (omega arith) (omega (arith, low))),
    )
