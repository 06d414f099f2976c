use Rattle.std.proofs.Common.{◌≡◌}
use Rattle.file_drive.specs.Tables.{words_in}
use Rattle.file_drive.proofs.tables.words_of.Given as goal

abbrev pub invariant-loop-index : goal.invariant-loop-index
invariant-loop-index l = l.words.items ≡ words_in l.bytes 0 l.index
