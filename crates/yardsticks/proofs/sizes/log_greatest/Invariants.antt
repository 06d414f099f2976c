use Rattle.std.proofs.Common.{◌≡◌, drop}
use Rattle.drive_array.specs.Sizes.{larger, log_greatest}
use Rattle.yardsticks.specs.Zones.{held_log}
use Rattle.yardsticks.proofs.sizes.log_greatest.Given as goal

abbrev pub invariant-loop-batch : goal.invariant-loop-batch
invariant-loop-batch l = larger l.found (log_greatest (held_log (drop l.batch-index l.log))) ≡ log_greatest (held_log l.log)
