use Rattle.passthrough.proofs.FlushLaws.{SettledTo}
use Rattle.passthrough.proofs.flushing.settle.Given as goal

abbrev pub invariant-loop-i : goal.invariant-loop-i
invariant-loop-i l = SettledTo l.i l.fn.seen l.seen
