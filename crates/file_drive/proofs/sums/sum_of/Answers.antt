use Rattle.std.proofs.Common.{◌≡◌, ◌+◌, ◌-◌, ◌*◌, ◌≤◌, ◌∙◌, drop, take, sym, ap, arith}
use Rattle.std.proofs.Math.Nat.{mul-le-mul_right}
use Rattle.file_drive.specs.Sums.{sum_after}
use Rattle.file_drive.proofs.SumLaws.{sum-next}
use Rattle.file_drive.proofs.sums.sum_of.Goals as goal

pub loop-index-preserved : goal.loop-index-preserved
loop-index-preserved c =
    let block = c.args.block in
    let index = c.loop-index.index in
    let bytes = c.args.bytes.now in
    let next : index + 1 ≤ c.args.count = omega (arith, c.loop-index-test.true) in
    let fits = mul-le-mul_right block next in
    let width : index * block + block - index * block ≡ block = omega arith in
    (rw width at c.sum_after-after.ensures)
    ∙ ap (λ s. sum_after s (take block (drop (index * block) bytes))) c.loop-index.invariant
    ∙ sym (sum-next block index c.args.sum bytes (omega (arith, fits, c.requires)))
