use Rattle.std.proofs.Common.{◌≡◌, ℕ, ◌-◌, length}
use Rattle.logical_map.specs.Lists.{listed}
use Rattle.logical_map.proofs.lists.make_lists.Given as goal

abbrev pub invariant-loop-alloc : goal.invariant-loop-alloc
invariant-loop-alloc l = (zone : ℕ) → listed l.lists.items zone ≡ listed l.fn.lists.items zone

abbrev pub decreases-loop-alloc : goal.decreases-loop-alloc
decreases-loop-alloc l = l.count - length l.lists.items
