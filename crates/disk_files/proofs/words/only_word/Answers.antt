use Rattle.disk_files.proofs.WordLaws.{HasMore-rest}
use Rattle.disk_files.proofs.words.only_word.Goals as goal

pub returns-in-Some : goal.returns-in-Some
returns-in-Some c = HasMore-rest c.args.line.now c.split_word.result.0.now c.in-Some.field-0.now (rw c.in-Some.is at c.split_word.ensures)
