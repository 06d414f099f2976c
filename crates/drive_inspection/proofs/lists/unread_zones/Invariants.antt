use Rattle.std.proofs.Common.{◌≡◌, ◌++◌, drop}
use Rattle.drive_inspection.specs.Lists.{found_from, found_in, unread_at}
use Rattle.drive_inspection.proofs.lists.unread_zones.Given as goal

abbrev pub invariant-loop-number : goal.invariant-loop-number
invariant-loop-number l = l.found.items ++ found_from unread_at l.number (drop l.number l.reads) ≡ found_in unread_at l.reads
