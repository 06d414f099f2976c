use Rattle.std.proofs.Common.{◌≡◌, ◌∙◌, ap, codes, false, sym}
use Rattle.std.specs.Prelude.{is_some}
use Rattle.clap.specs.Words.{first_of, found_of, rows_of}
use Rattle.asked_tasks.proofs.DeviceLaws.{file-task, not-there}
use Rattle.asked_tasks.proofs.WordLaws.{is_some-map}
use Rattle.asked_tasks.proofs.words.subcommand_task.Goals as goal

pub returns : goal.returns
returns c =
    let rows = rows_of (found_of c.args.matches.now) in
    let given : is_some (first_of (codes "device") rows) ≡ false = ap is_some (sym c.given.ensures) ∙ is_some-map _ c.given.result ∙ sym c.is_some.ensures ∙ c.if-is_some.false in
    file-task c.args.name.now rows (not-there (first_of (codes "device") rows) given) c.file_task.result c.file_task.ensures
