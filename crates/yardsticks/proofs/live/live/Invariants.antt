use Rattle.std.proofs.Common.{◌≡◌, ◌≤◌}
use Rattle.drive_array.specs.Repair.{live_records}
use Rattle.yardsticks.specs.Zones.{held_logs}
use Rattle.yardsticks.proofs.live.live.Given as goal

abbrev pub invariant-loop-block : goal.invariant-loop-block
invariant-loop-block l = record {
  counted : l.count ≡ live_records l.block (held_logs l.logs) l.zone;
  small : l.count ≤ l.block;
}
