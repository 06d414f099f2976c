use Rattle.std.proofs.Common.{◌≡◌, ◌≤◌, ◌++◌, drop, length}
use Rattle.zone_choice.specs.Builder.{entries_from}
use Rattle.zone_choice.proofs.batch.BatchBuilder.name.Given as goal

abbrev pub invariant-loop-i : goal.invariant-loop-i
invariant-loop-i l =
    (l.self-inside.header.kind ≡ l.fn.self.heading.kind)
    × (l.self-inside.header.sequence ≡ l.fn.self.heading.sequence)
    × (l.self-inside.header.source ≡ l.fn.self.heading.source)
    × (l.self-inside.header.size ≡ l.fn.self.heading.size)
    × (l.self-inside.header.entries.items ≡ l.fn.self.heading.entries ++ entries_from l.fn.trim l.fn.first l.i)
    × (drop l.self-inside.front l.self-inside.bytes.items ≡ l.fn.self.bytes)
    × (l.self-inside.front ≤ length l.self-inside.bytes.items)
