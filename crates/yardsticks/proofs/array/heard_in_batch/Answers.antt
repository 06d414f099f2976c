use Rattle.std.proofs.Common.{◌≡◌, ◌+◌, ◌∙◌, ℕ, drop, [], ap, arith}
use Rattle.std.specs.Option.{option_map}
use Rattle.std.proofs.lemmas.List.{drop_all, drop_more}
use Rattle.yardsticks.specs.Batches.{held_blocks}
use Rattle.yardsticks.specs.Zones.{saying_of}
use Rattle.yardsticks.proofs.HeardLaws.{entry-step, heard-entries}
use Rattle.yardsticks.proofs.array.heard_in_batch.Goals as goal

pub loop-entry-preserved : goal.loop-entry-preserved
loop-entry-preserved c =
    let entries = c.args.batch.now.header.entries.items in
    let here = rw c.deref-entry-items.ensures.value at (c.heard_in_entry-latest.ensures 0) in
    let count = rw c.deref-entry-items.ensures.value at c.data_blocks-number.ensures.count in
    record {
      found = entry-step c.args.block _ c.args.zone _ _ c.loop-entry.entry-index _ entries _ _ _ _ (drop_more entries c.loop-entry.entry-index _ (omega arith)) c.loop-entry.invariant.found here (ap (λ (n : ℕ). c.loop-entry.number + n) count);
      small = omega arith;
    }

pub returns : goal.returns
returns c = λ header.
    let entries = c.args.batch.now.header.entries.items in
    let done : drop c.loop-entry.entry-index entries ≡ [] = drop_all c.loop-entry.entry-index entries (omega arith) in
    (rw done at c.loop-entry.invariant.found) ∙ heard-entries c.args.block (option_map saying_of c.args.found) c.args.batch.now.header.sequence (held_blocks c.args.batch.now.body.items) c.args.zone header 0 entries
