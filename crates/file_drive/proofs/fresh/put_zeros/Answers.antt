use Rattle.std.proofs.Common.{rules, ◌*◌, ◌∙◌, arith, replicate, ℕ}
use Rattle.sqlite_disk.specs.Disk.{Holds}
use Rattle.file_drive.specs.Layout.{file_length}
use Rattle.file_drive.proofs.FormatLaws.{zeros-again}
use Rattle.file_drive.proofs.PlaceLaws.{zones-after}
use Rattle.file_drive.proofs.StoringLaws.{unnamed-beside}
use Rattle.file_drive.proofs.fresh.put_zeros.Goals as goal

pub returns-in_err-write-clause-unnamed : goal.returns-in_err-write-clause-unnamed
returns-in_err-write-clause-unnamed g c unnamed =
    unnamed-beside (4096 * c.loop-number.number) 4096 (g.F.FileBytes.may_leave c.loop-number.file) (g.F.FileBytes.may_leave c.write.new.self) c.write.ensures.leaves (omega (arith, c.loop-number.auto.number)) (c.loop-number.invariant.unnamed unnamed)

pub loop-number-preserved : goal.loop-number-preserved
loop-number-preserved g c =
    let geometry = c.args.geometry.now in
    let n : ℕ = file_length geometry in
    let at : ℕ = 4096 * c.loop-number.number in
    let new = g.F.FileBytes.seen c.write.new.self in
    let put : Holds new at (replicate 4096 0) = search rules in
    record {
      zeros = zeros-again n at 4096 new (omega (arith, c.loop-number-test.true, c.at_table-end.ensures, zones-after geometry 3 (omega arith))) (rw c.loop-number.invariant.zeros at c.write.ensures.others) put;
      unnamed = λ unnamed.
          unnamed-beside at 4096 (g.F.FileBytes.may_leave c.loop-number.file) (g.F.FileBytes.may_leave c.write.new.self) c.write.ensures.leaves (omega (arith, c.loop-number.auto.number)) (c.loop-number.invariant.unnamed unnamed);
      usable = c.write.ensures.usable ∙ c.loop-number.invariant.usable;
    }
