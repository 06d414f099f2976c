-- Blocks that are told by ranges.
use Rattle.std.specs.Prelude.{ℕ, List}
use Rattle.std.specs.List.{flat_map, range_with_len}
use Rattle.drive_rescue.specs.declared.ranges.BlockRange.{BlockRange}

-- the blocks of these ranges
abbrev pub blocks_in : List BlockRange → List ℕ
blocks_in ranges = flat_map (λ (range : BlockRange). range_with_len range.first range.count) ranges
