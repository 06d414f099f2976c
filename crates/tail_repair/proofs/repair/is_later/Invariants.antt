use Rattle.std.proofs.Common.{◌≡◌, ◌≢◌, ◌<◌, ℕ, Some}
use Rattle.std.specs.Prelude.{slice_get}
use Rattle.tail_repair.specs.declared.tails.ForeignTail.{ForeignTail}
use Rattle.tail_repair.proofs.repair.is_later.Given as goal

abbrev pub invariant-loop-tail : goal.invariant-loop-tail
invariant-loop-tail l = (k : ℕ) (tail : ForeignTail) → k < l.tail-index → slice_get l.tails k ≡ Some tail → l.zone < tail.zone → tail.zone ≢ l.to
