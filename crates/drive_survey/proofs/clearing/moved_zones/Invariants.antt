use Rattle.drive_survey.proofs.WaitingLaws.{MovedSoFar}
use Rattle.drive_survey.proofs.clearing.moved_zones.Given as goal

abbrev pub invariant-loop-zone : goal.invariant-loop-zone
invariant-loop-zone l = MovedSoFar l.scanned l.zones l.zone
