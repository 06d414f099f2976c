use Rattle.drive_array.specs.Spare.{NoneBelow}
use Rattle.yardsticks.specs.Zones.{held_logs}
use Rattle.yardsticks.proofs.spare.lowest_half_clean.Given as goal

abbrev pub invariant-loop-zone : goal.invariant-loop-zone
invariant-loop-zone l = NoneBelow l.block_bytes l.n (held_logs l.logs) l.zone
