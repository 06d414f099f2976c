use Rattle.std.proofs.Common.{◌≡◌, ◌++◌, ◌+◌, ◌<◌, ◌^◌}
use Rattle.std.specs.List.{AllByRecursion}
use Rattle.zone_cleaner.specs.Gathered.{entries_for}
use Rattle.zone_cleaner.proofs.gathered.name_all.Given as goal

abbrev pub invariant-loop-block : goal.invariant-loop-block
invariant-loop-block l =
    (record l.batch.heading { entries = l.batch.heading.entries ++ entries_for l.block-iterator } ≡ record l.fn.batch.heading { entries = l.fn.batch.heading.entries ++ entries_for l.fn.records.entries })
    × AllByRecursion (λ b. b.0 + 1 < 2 ^ 32) l.block-iterator × (l.batch.bytes ≡ l.fn.batch.bytes)
