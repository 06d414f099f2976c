use Rattle.std.proofs.Common.{rules, ◌≡◌, ◌+◌, ◌*◌, ◌≤◌, ◌∙◌, length, drop, take, sym, ap, arith}
use Rattle.std.proofs.Math.Nat.{mul-le-mul_right}
use Rattle.std.proofs.lemmas.List.{length-drop, length-take-le}
use Rattle.sqlite_disk.specs.Disk.{Holds}
use Rattle.file_drive.specs.Layout.{part}
use Rattle.file_drive.specs.Sums.{sum_after, sum_of}
use Rattle.file_drive.proofs.PartLaws.{part-held}
use Rattle.file_drive.proofs.SumLaws.{part-piece, sum-next}
use Rattle.file_drive.proofs.sums.read_sum.Goals as goal

pub loop-index-preserved : goal.loop-index-preserved
loop-index-preserved g c =
    let file = g.F.FileBytes.seen c.args.file.now in
    let at = c.args.at in
    let block = length c.args.room.now in
    let count = c.args.count in
    let index = c.loop-index.index in
    let inv = c.loop-index.invariant in
    let all = part file at (count * block) in
    let next : index + 1 ≤ count = omega (arith, c.loop-index-test.true) in
    let fits = mul-le-mul_right block next in
    let long : length all ≡ count * block = length-take-le (count * block) (drop at file) (omega (arith, length-drop at file, c.requires.within)) in
    let room : length c.read.new.room ≡ block = omega (arith, c.read.auto.room, inv.1) in
    let holds : Holds file (at + index * block) c.read.new.room = search rules in
    let is : part file (at + index * block) block ≡ c.read.new.room = ap (part file (at + index * block)) (sym room) ∙ part-held file (at + index * block) c.read.new.room holds in
    let piece : take block (drop (index * block) all) ≡ c.read.new.room = part-piece file at (count * block) (index * block) block (omega (arith, fits)) ∙ is in (
      c.sum_after-after.ensures
          ∙ ap (λ s. sum_after s c.read.new.room) inv.0
          ∙ ap (sum_after (sum_of block index c.args.sum all)) (sym piece)
          ∙ sym (sum-next block index c.args.sum all (omega (arith, fits, long))),
      room,
      search rules,
      search rules,
      search rules,
    )
