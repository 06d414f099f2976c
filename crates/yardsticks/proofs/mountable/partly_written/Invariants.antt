use Rattle.std.proofs.Common.{◌≡◌, ◌≤◌, ◌+◌, drop}
use Rattle.std.specs.List.{count_by}
use Rattle.drive_array.specs.Mountable.{is_partly_written}
use Rattle.yardsticks.specs.Zones.{image_contents}
use Rattle.yardsticks.proofs.mountable.partly_written.Given as goal

abbrev pub invariant-loop-zone : goal.invariant-loop-zone
invariant-loop-zone l = record {
  counted : l.count + count_by is_partly_written (image_contents (drop l.zone-index l.zones)) ≡ count_by is_partly_written (image_contents l.zones);
  small : l.count ≤ l.zone-index;
}
