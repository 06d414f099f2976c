use Rattle.std.proofs.Common.{◌≡◌, length}
use Rattle.call_tests.proofs.counts.counts_as_a_plain_list.Given as goal

abbrev pub invariant-loop-call : goal.invariant-loop-call
invariant-loop-call g l = length l.index ≡ 16
