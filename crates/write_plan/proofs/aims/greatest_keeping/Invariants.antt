use Rattle.std.proofs.Common.{◌-◌, ◌+◌, ◌≤◌, ◌<◌}
use Rattle.drive_array.specs.Reserve.{most_size}
use Rattle.write_plan.proofs.aims.greatest_keeping.Given as goal

abbrev pub invariant-loop-low : goal.invariant-loop-low
invariant-loop-low l = record { first : 1 ≤ l.low; below : l.low < l.high; last : l.high ≤ most_size l.geometry + 1 }

abbrev pub decreases-loop-low : goal.decreases-loop-low
decreases-loop-low l = l.high - l.low
