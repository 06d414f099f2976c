use Rattle.std.proofs.Common.{◌≡◌, ◌≤◌}
use Rattle.drive_array.specs.Repair.{live_data}
use Rattle.yardsticks.specs.Zones.{held_logs}
use Rattle.yardsticks.proofs.live.live_data.Given as goal

abbrev pub invariant-loop-block : goal.invariant-loop-block
invariant-loop-block l = record {
  counted : l.count ≡ live_data l.block (held_logs l.logs) l.zone;
  small : l.count ≤ l.block;
}
