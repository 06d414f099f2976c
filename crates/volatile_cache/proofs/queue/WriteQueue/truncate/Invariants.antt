use Rattle.std.proofs.Common.{◌≡◌, ◌≤◌, length, take}
use Rattle.std.specs.Prelude.{◌⊎◌}
use Rattle.volatile_cache.proofs.queue.WriteQueue.truncate.Given as goal

abbrev pub invariant-loop-self : goal.invariant-loop-self
invariant-loop-self l = l.self ≡ take (length l.self) l.initial.self × ((length l.self ≡ length l.initial.self) ⊎ (l.count ≤ length l.self))

abbrev pub decreases-loop-self : goal.decreases-loop-self
decreases-loop-self l = length l.self
