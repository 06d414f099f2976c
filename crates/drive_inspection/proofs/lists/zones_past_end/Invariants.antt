use Rattle.std.proofs.Common.{◌≡◌, ◌++◌, drop}
use Rattle.drive_inspection.specs.Lists.{found_from, found_in, past_end_at}
use Rattle.drive_inspection.proofs.lists.zones_past_end.Given as goal

abbrev pub invariant-loop-number : goal.invariant-loop-number
invariant-loop-number l = l.found.items ++ found_from (past_end_at l.size) l.number (drop l.number l.reads) ≡ found_in (past_end_at l.size) l.reads
