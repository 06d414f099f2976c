use Rattle.std.proofs.Common.{◌≡◌, ◌++◌, ◌+◌, ◌≤◌, length}
use Rattle.std.specs.Prelude.{IfSome}
use Rattle.std.specs.List.{AllByRecursion, concat, flat_map}
use Rattle.std.specs.Option.{option_map}
use Rattle.zone_cleaner.specs.Gathered.{block_from, bytes_in, gathered_records}
use Rattle.zone_cleaner.specs.LiveRecords.{gathered_data}
use Rattle.zone_cleaner.proofs.gathered.copy_all.Given as goal

abbrev pub invariant-loop-position : goal.invariant-loop-position
invariant-loop-position l =
    (l.packed.bytes ++ flat_map (λ position. bytes_in (option_map (block_from l.fn.block_bytes l.fn.bytes) position)) l.position-iterator ≡ l.fn.packed.bytes ++ concat (gathered_data (gathered_records l.fn.block_bytes l.fn.bytes l.fn.records.entries)))
    × AllByRecursion (λ position. IfSome position (λ p. p + l.fn.block_bytes ≤ length l.fn.bytes)) l.position-iterator
