use Rattle.std.proofs.Common.{◌≡◌, ◌++◌, ◌+◌, ◌<◌, ◌^◌, drop}
use Rattle.std.specs.List.{AllByRecursion}
use Rattle.zone_choice.specs.Tables.{size_of}
use Rattle.remount.specs.Moving.{moved_entries}
use Rattle.remount.proofs.repair.moves.name_records.Given as goal

abbrev pub invariant-loop-block : goal.invariant-loop-block
invariant-loop-block l =
    (record l.batch.heading { entries = l.batch.heading.entries ++ moved_entries l.tables.map.places (drop l.block-index l.blocks) } ≡ record l.fn.batch.heading { entries = l.fn.batch.heading.entries ++ moved_entries l.tables.map.places l.blocks })
    × AllByRecursion (λ block. (block < size_of l.tables) × (block + 1 < 2 ^ 32)) (drop l.block-index l.blocks)
