use Rattle.std.proofs.Common.{take}
use Rattle.std.specs.List.{AllByRecursion}
use Rattle.file_drive.specs.Opening.{Holds}
use Rattle.file_drive.proofs.entries.check_entries.Given as goal

abbrev pub invariant-loop-index : goal.invariant-loop-index
invariant-loop-index l = AllByRecursion (Holds l.geometry) (take l.index l.entries)
