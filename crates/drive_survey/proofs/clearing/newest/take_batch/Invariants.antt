use Rattle.std.proofs.Common.{◌≤◌, drop}
use Rattle.drive_survey.specs.KeptRecords.{kept_entries}
use Rattle.drive_survey.proofs.NewestRecordLaws.{TakenSoFar}
use Rattle.drive_survey.proofs.clearing.newest.take_batch.Given as goal

abbrev pub invariant-loop-entry : goal.invariant-loop-entry
invariant-loop-entry l =
    TakenSoFar l.fn.newest l.newest (kept_entries l.head.sequence l.zone l.head.offset l.before (drop l.entry-index l.entries)) (kept_entries l.head.sequence l.zone l.head.offset 0 l.entries)
    × (l.before ≤ l.entry-index)
