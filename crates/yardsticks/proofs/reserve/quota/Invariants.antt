use Rattle.std.proofs.Common.{◌≤◌, ◌+◌, ◌-◌}
use Rattle.drive_array.specs.Reserve.{batch_most, move_blocks}
use Rattle.yardsticks.proofs.reserve.quota.Given as goal

abbrev pub invariant-loop-records : goal.invariant-loop-records
invariant-loop-records l = move_blocks (batch_most l.geometry) l.records + 2 ≤ l.geometry.capacity

abbrev pub decreases-loop-records : goal.decreases-loop-records
decreases-loop-records l = l.geometry.capacity - l.records
