use Rattle.std.proofs.Common.{◌≢◌, ◌%◌, length, ◌∙◌, arith}
use Rattle.std.proofs.lemmas.Bool.Decides.{nat_tests}
use Rattle.disk_files.proofs.DataLaws.{bytes_of-odd, data_of-some}
use Rattle.disk_files.proofs.data.decode_over.Goals as goal

pub returns-then-digits-ne0-clause-grammar : goal.returns-then-digits-ne0-clause-grammar
returns-then-digits-ne0-clause-grammar c = λ _.
    let digits = c.args.digits.now in
    let some : length digits ≢ 0 = grind (arith, nat_tests) in
    let odd : length digits % 2 ≢ 0 = grind (arith, nat_tests) in
    data_of-some digits some ∙ bytes_of-odd digits odd
