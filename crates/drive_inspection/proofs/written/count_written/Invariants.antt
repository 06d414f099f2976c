use Rattle.std.proofs.Common.{◌≡◌, ◌≤◌, ◌+◌, drop}
use Rattle.std.specs.List.{count_by}
use Rattle.drive_inspection.specs.Written.{is_written}
use Rattle.drive_inspection.proofs.written.count_written.Given as goal

abbrev pub invariant-loop-zone : goal.invariant-loop-zone
invariant-loop-zone l = record {
  counted : l.count + count_by is_written (drop l.zone-index l.zones) ≡ count_by is_written l.zones;
  small : l.count ≤ l.zone-index;
}
