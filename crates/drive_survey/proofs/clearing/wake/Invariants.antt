use Rattle.std.specs.BTreeSet.{IsSubset}
use Rattle.std.specs.Ordering.{nat_cmp}
use Rattle.drive_survey.proofs.WaitingLaws.{WokenSoFar}
use Rattle.drive_survey.proofs.clearing.wake.Given as goal

abbrev pub invariant-loop-found : goal.invariant-loop-found
invariant-loop-found l = IsSubset nat_cmp l.fn.waiting l.waiting × WokenSoFar l.records l.waiting l.own l.found-index
