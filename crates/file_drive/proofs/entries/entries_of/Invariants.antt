use Rattle.std.proofs.Common.{◌≡◌, map, take}
use Rattle.file_drive.specs.Tables.{entry_of}
use Rattle.file_drive.proofs.entries.entries_of.Given as goal

abbrev pub invariant-loop-index : goal.invariant-loop-index
invariant-loop-index l = l.entries.items ≡ map entry_of (take l.index l.words)
