use Rattle.std.proofs.Common.{◌≡◌, drop}
use Rattle.std.specs.Option.{option_map}
use Rattle.drive_array.specs.Records.{log_records}
use Rattle.yardsticks.specs.Zones.{heard, held_log, saying_of}
use Rattle.yardsticks.proofs.array.heard_in_log.Given as goal

abbrev pub invariant-loop-batch : goal.invariant-loop-batch
invariant-loop-batch l =
    heard l.block (option_map saying_of l.latest) (log_records l.zone 0 (held_log (drop l.batch-index l.log)))
    ≡ heard l.block (option_map saying_of l.fn.found) (log_records l.zone 0 (held_log l.log))
