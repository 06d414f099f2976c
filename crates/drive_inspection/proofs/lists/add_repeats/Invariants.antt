use Rattle.std.proofs.Common.{◌≡◌, ◌++◌, drop}
use Rattle.drive_inspection.specs.Lists.{met_with, repeats_of}
use Rattle.drive_inspection.proofs.lists.add_repeats.Given as goal

abbrev pub invariant-loop-head : goal.invariant-loop-head
invariant-loop-head l = record {
  found : l.found.items ++ repeats_of l.zone l.seen.keys (drop l.head-index l.heads) ≡ l.fn.found.items ++ repeats_of l.zone l.fn.seen.keys l.heads;
  seen : met_with l.seen.keys (drop l.head-index l.heads) ≡ met_with l.fn.seen.keys l.heads;
}
