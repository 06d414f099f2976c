use Rattle.std.proofs.Common.{◌≡◌, drop}
use Rattle.drive_array.specs.Sizes.{greatest, larger}
use Rattle.yardsticks.specs.Zones.{logs_but, held_logs}
use Rattle.yardsticks.proofs.sizes.greatest.Given as goal

abbrev pub invariant-loop-zone : goal.invariant-loop-zone
invariant-loop-zone l =
    let logs = logs_but l.left_out (held_logs l.logs) in
    larger l.found (greatest (drop l.zone logs)) ≡ greatest logs
