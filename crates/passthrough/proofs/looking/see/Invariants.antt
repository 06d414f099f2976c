use Rattle.passthrough.specs.Showing.{SeesStates}
use Rattle.passthrough.proofs.looking.see.Given as goal

abbrev pub invariant-loop-i : goal.invariant-loop-i
invariant-loop-i l = SeesStates l.first l.i l.report l.fn.seen l.seen
