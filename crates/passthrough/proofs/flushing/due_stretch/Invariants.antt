use Rattle.passthrough.specs.Showing.{CoversDue}
use Rattle.passthrough.proofs.flushing.due_stretch.Given as goal

abbrev pub invariant-loop-i : goal.invariant-loop-i
invariant-loop-i l = CoversDue l.seen l.first l.i l.stretch.0 l.stretch.1
