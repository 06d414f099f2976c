use Rattle.std.proofs.Common.{ltb, arith, rules}
use Rattle.std.proofs.lemmas.Bool.{ltb-false, ltb-true}
use Rattle.std.proofs.lemmas.List.Sorted.{IsPartitionPoint-from_clause, IsPartitionedBy-ltb}
use Rattle.logical_map.proofs.lists.first_from.Goals as goal

pub returns : goal.returns
returns c =
    let parted = IsPartitionedBy-ltb (λ x. x) _ c.args.from c.requires in
    let point = IsPartitionPoint-from_clause (λ x. ltb x c.args.from) _ _ c.partition_point.ensures.partitioned parted (λ a r q k. search rules) in
    record { within = c.partition_point.ensures.bound; below = λ k before. ltb-true _ _ (point.0 k 0 (omega arith) before); above = λ k after within. ltb-false _ _ (point.1 k 0 after within) }
