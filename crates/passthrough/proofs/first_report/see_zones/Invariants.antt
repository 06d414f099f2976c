use Rattle.passthrough.specs.Seen.{AreRows}
use Rattle.passthrough.proofs.first_report.see_zones.Given as goal

abbrev pub invariant-loop-number : goal.invariant-loop-number
invariant-loop-number l = AreRows l.geometry l.report l.number l.seen
