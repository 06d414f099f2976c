use Rattle.std.proofs.Common.{◌≡◌, ◌++◌, [], drop}
use Rattle.drive_inspection.specs.Lists.{repeats_from}
use Rattle.drive_inspection.proofs.lists.repeated_sequences.Given as goal

abbrev pub invariant-loop-number : goal.invariant-loop-number
invariant-loop-number l = l.found.items ++ repeats_from l.number l.seen.keys (drop l.number l.reads) ≡ repeats_from 0 [] l.reads
