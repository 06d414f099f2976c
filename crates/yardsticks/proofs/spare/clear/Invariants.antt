use Rattle.std.proofs.Common.{List}
use Rattle.batch_log.specs.Log.{Batch}
use Rattle.drive_array.proofs.ClearingLaws.{with_batch}
use Rattle.yardsticks.specs.Zones.{HasClearing, held_logs}
use Rattle.yardsticks.proofs.spare.clear.Given as goal

abbrev pub invariant-loop-zone : goal.invariant-loop-zone
invariant-loop-zone l = (left : List (List Batch)) → HasClearing l.block_bytes l.n (held_logs l.logs.items) left → HasClearing l.block_bytes l.n (held_logs l.fn.logs.items) left

abbrev pub decreases-loop-zone : goal.decreases-loop-zone
decreases-loop-zone l = with_batch (held_logs l.logs.items)
