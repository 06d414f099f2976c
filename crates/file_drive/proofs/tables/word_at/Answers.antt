use Rattle.std.proofs.Common.{◌≡◌, ◌+◌, ◌-◌, ap, ◌∙◌, refl, arith}
use Rattle.std.specs.Int.{w64, from_le_bytes}
use Rattle.file_drive.specs.Layout.{part, word_in}
use Rattle.file_drive.proofs.tables.word_at.Goals as goal

pub returns : goal.returns
unfolding word_in
returns c =
    let eight : c.args.at + 8 - c.args.at ≡ 8 = omega arith in
    let is : c.copy_from_slice.new.self ≡ part c.args.bytes.now c.args.at 8 = rw (c.copy_from_slice.ensures.after, eight) refl in
    c.from_le_bytes.ensures ∙ ap (from_le_bytes w64) is
