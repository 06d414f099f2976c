use Rattle.std.proofs.Common.{◌≡◌, ◌≤◌, ◌+◌, drop}
use Rattle.batch_log.specs.Log.{data_count}
use Rattle.yardsticks.proofs.batches.data_blocks.Given as goal

abbrev pub invariant-loop-entry : goal.invariant-loop-entry
invariant-loop-entry l = record {
  counted : l.count + data_count (drop l.entry-index l.entries) ≡ data_count l.entries;
  small : l.count ≤ l.entry-index;
}
