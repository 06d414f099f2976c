use Rattle.std.proofs.Common.{◌≡◌, ◌++◌, take}
use Rattle.drive_array.specs.ZoneLogs.{log_sequences}
use Rattle.yardsticks.specs.Zones.{held_log}
use Rattle.yardsticks.proofs.sequences.add_sequences.Given as goal

abbrev pub invariant-loop-batch : goal.invariant-loop-batch
invariant-loop-batch l = l.numbers.items ≡ l.fn.numbers.items ++ log_sequences (held_log (take l.batch-index l.log))
