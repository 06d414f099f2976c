use Rattle.std.proofs.Common.{rules}
use Rattle.std.proofs.lemmas.List.Sorted.{IsNonDecreasingBy-from_sort_by_key}
use Rattle.remount.specs.declared.tables.batches.ListedBatch.{ListedBatch}
use Rattle.remount.proofs.tables.batches.oldest_first.Goals as goal

pub returns-clause-sorted : goal.returns-clause-sorted
returns-clause-sorted c = IsNonDecreasingBy-from_sort_by_key (λ (b : ListedBatch). b.head.sequence) _ c.sort_unstable_by_key.ensures.sorted (λ a r f k. search rules)

pub returns-clause-all : goal.returns-clause-all
returns-clause-all c few = (c.in_ok-batches.batches.items, c.sort_unstable_by_key.ensures.permutation, c.in_ok-batches.ensures few)
