use Rattle.std.proofs.Common.{ap, ◌∙◌}
use Rattle.zone_cleaner.specs.Gathered.{gathered_records}
use Rattle.zone_cleaner.proofs.EntryLaws.{Blocks, shown-remove, within-remove}
use Rattle.zone_cleaner.proofs.gathered.Gathered.forget_one.Goals as goal

pub invariant_of-self : goal.invariant_of-self
invariant_of-self c =
    let s = c.self.inside in
    (c.self.invariant.0, rw c.shift_remove.ensures.entries (within-remove s.block_bytes _ c.args.block s.records.entries c.self.invariant.1), λ none. absurd (cc))

pub returns-then-is_some : goal.returns-then-is_some
returns-then-is_some c = let s = c.self.inside in ap (λ (bs : Blocks). gathered_records s.block_bytes s.batch.bytes bs) c.shift_remove.ensures.entries ∙ rw (← c.self.view_is) (shown-remove s.block_bytes c.args.block s.batch.bytes s.records.entries)

pub returns-else-is_some : goal.returns-else-is_some
returns-else-is_some c = let s = c.self.inside in ap (λ (bs : Blocks). gathered_records s.block_bytes s.batch.bytes bs) c.shift_remove.ensures.entries ∙ rw (← c.self.view_is) (shown-remove s.block_bytes c.args.block s.batch.bytes s.records.entries)
