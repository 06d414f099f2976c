use Rattle.std.proofs.Common.{drop}
use Rattle.drive_survey.specs.KeptRecords.{kept_batches, kept_of_zone}
use Rattle.drive_survey.proofs.NewestRecordLaws.{TakenSoFar}
use Rattle.drive_survey.proofs.clearing.newest.take_zone.Given as goal

abbrev pub invariant-loop-head : goal.invariant-loop-head
invariant-loop-head l = TakenSoFar l.fn.newest l.newest (kept_batches l.zone l.from (drop l.head-index l.heads.heads) l.rest) (kept_of_zone l.zone l.heads)
