use Rattle.std.proofs.Common.{◌≡◌, length, map, take}
use Rattle.file_drive.specs.Tables.{word_of}
use Rattle.file_drive.proofs.words.note_words.Given as goal

abbrev pub invariant-loop-index : goal.invariant-loop-index
invariant-loop-index l = (length l.words.items ≡ length l.entries) × (take l.index l.words.items ≡ take l.index (map word_of l.entries))
