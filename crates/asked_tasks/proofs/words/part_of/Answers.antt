use Rattle.clap.specs.Words.{found_of, rows_of}
use Rattle.asked_tasks.specs.Values.{HasNumber}
use Rattle.asked_tasks.proofs.WordLaws.{exits, fits_64_bits}
use Rattle.asked_tasks.proofs.words.part_of.Goals as goal

pub returns-in_err-number : goal.returns-in_err-number
returns-in_err-number c =
    let rows = rows_of (found_of c.args.matches.now) in
    let name = c.args.name.now in
    exits (HasNumber 64 rows name) (HasNumber 32 rows name) c.from_residual.result c.in_err-number.field-0.0 c.from_residual.ensures.1
    (λ n has. (n, fits_64_bits rows name n has)) c.in_err-number.ensures.fault
