use Rattle.std.proofs.Common.{◌≡◌, ◌≤◌, ◌+◌, drop}
use Rattle.std.specs.List.{count_by}
use Rattle.drive_inspection.specs.Lists.{is_log}
use Rattle.drive_inspection.proofs.lists.count_readable.Given as goal

abbrev pub invariant-loop-read : goal.invariant-loop-read
invariant-loop-read l = record {
  counted : l.count + count_by is_log (drop l.read-index l.reads) ≡ count_by is_log l.reads;
  small : l.count ≤ l.read-index;
}
