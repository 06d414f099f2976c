use Rattle.std.proofs.Common.{◌≡◌, ◌∙◌, ap, sym, true}
use Rattle.std.specs.Prelude.{is_some, not}
use Rattle.clap.specs.Words.{first_of, found_of, rows_of}
use Rattle.asked_tasks.specs.Values.{HasNumber, HasNumberIf}
use Rattle.asked_tasks.proofs.WordLaws.{exits, is_some-map, number_part}
use Rattle.asked_tasks.proofs.words.number_if_given.Goals as goal

pub returns-in_err-number : goal.returns-in_err-number
returns-in_err-number c =
    let rows = rows_of (found_of c.args.matches.now) in
    let name = c.args.name.now in
    let some : is_some (first_of name rows) ≡ true = ap is_some (sym c.given.ensures) ∙ is_some-map _ c.given.result ∙ c.is_none.ensures ∙ ap not c.if-is_none.false in
    exits (HasNumber 64 rows name) (HasNumberIf rows name) c.from_residual.result c.in_err-number.field-0.0 c.from_residual.ensures.1 (number_part rows name some) c.in_err-number.ensures.fault
