use Rattle.std.proofs.Common.{◌≡◌}
use Rattle.yardsticks.specs.Batches.{held_blocks}
use Rattle.drive_array.specs.Records.{records, shown, told}
use Rattle.yardsticks.specs.Zones.{logs_but, held_logs}
use Rattle.yardsticks.proofs.array.array.Given as goal

abbrev pub invariant-loop-block : goal.invariant-loop-block
invariant-loop-block l = held_blocks l.blocks.items ≡ told (shown l.block_bytes) l.block (records 0 (logs_but l.left_out (held_logs l.logs)))
