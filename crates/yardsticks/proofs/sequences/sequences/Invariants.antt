use Rattle.std.proofs.Common.{◌≡◌, take}
use Rattle.drive_array.specs.ZoneLogs.{sequences}
use Rattle.yardsticks.specs.Zones.{held_logs}
use Rattle.yardsticks.proofs.sequences.sequences.Given as goal

abbrev pub invariant-loop-log : goal.invariant-loop-log
invariant-loop-log l = l.numbers.items ≡ sequences (held_logs (take l.log-index l.logs))
