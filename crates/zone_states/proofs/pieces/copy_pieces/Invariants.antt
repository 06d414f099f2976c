use Rattle.std.proofs.Common.{◌≡◌, ◌+◌, ◌++◌, ◌≤◌, length, vec_capacity, vec_len}
use Rattle.zone_states.proofs.pieces.copy_pieces.Given as goal

abbrev pub invariant-loop-rest : goal.invariant-loop-rest
invariant-loop-rest l = (l.written.items ++ l.rest ≡ l.fn.written.items ++ l.fn.bytes) × (vec_len l.written + length l.rest ≤ vec_capacity l.written)

abbrev pub decreases-loop-rest : goal.decreases-loop-rest
decreases-loop-rest l = length l.rest
