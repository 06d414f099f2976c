use Rattle.std.proofs.Common.{sym}
use Rattle.std.proofs.lemmas.List.{take_rest}
use Rattle.disk_files.specs.Words.{is_space}
use Rattle.disk_files.proofs.PlaceLaws.{slice_split-Some, slice_split-None}
use Rattle.disk_files.proofs.words.split_word.Goals as goal

pub returns-in-Some : goal.returns-in-Some
returns-in-Some c = rw take_rest (slice_split-Some is_space c.args.line.now c.in-Some.place (sym c.in-Some.ensures))

pub returns-in-None : goal.returns-in-None
returns-in-None c = slice_split-None is_space c.args.line.now (sym c.in-None.ensures)
