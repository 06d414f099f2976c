use Rattle.std.proofs.lemmas.List.Sorted.{Contains-permutation, IsNonDecreasingBy-from_sort}
use Rattle.logical_map.proofs.lists.ZoneList.sort.Goals as goal

pub invariant_of-self : goal.invariant_of-self
invariant_of-self c = λ sorted. IsNonDecreasingBy-from_sort (λ x. x) _ c.sort_unstable.ensures.sorted

pub returns-clause-kept : goal.returns-clause-kept
returns-clause-kept c = rw (← c.self.view_is) (λ block had. Contains-permutation _ _ block c.sort_unstable.ensures.permutation had)

pub returns-clause-ascends : goal.returns-clause-ascends
returns-clause-ascends c = IsNonDecreasingBy-from_sort (λ x. x) _ c.sort_unstable.ensures.sorted
