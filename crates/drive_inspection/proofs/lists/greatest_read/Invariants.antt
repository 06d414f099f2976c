use Rattle.std.proofs.Common.{◌≡◌, drop}
use Rattle.drive_array.specs.Sizes.{larger}
use Rattle.drive_inspection.specs.Lists.{greatest_read}
use Rattle.drive_inspection.proofs.lists.greatest_read.Given as goal

abbrev pub invariant-loop-read : goal.invariant-loop-read
invariant-loop-read l = larger l.size (greatest_read (drop l.read-index l.reads)) ≡ greatest_read l.reads
