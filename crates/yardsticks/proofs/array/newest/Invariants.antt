use Rattle.std.proofs.Common.{◌≡◌, drop, None}
use Rattle.std.specs.Option.{option_map}
use Rattle.drive_array.specs.Records.{records}
use Rattle.yardsticks.specs.Zones.{logs_but, heard, held_logs, saying_of}
use Rattle.yardsticks.proofs.array.newest.Given as goal

abbrev pub invariant-loop-zone : goal.invariant-loop-zone
invariant-loop-zone l =
    let logs = logs_but l.left_out (held_logs l.logs) in
    heard l.block (option_map saying_of l.latest) (records l.zone (drop l.zone logs)) ≡ heard l.block None (records 0 logs)
