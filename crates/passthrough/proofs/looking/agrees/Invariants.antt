use Rattle.passthrough.specs.Showing.{AreShown}
use Rattle.passthrough.proofs.looking.agrees.Given as goal

abbrev pub invariant-loop-i : goal.invariant-loop-i
invariant-loop-i l = AreShown l.geometry l.first l.seen l.report l.i
