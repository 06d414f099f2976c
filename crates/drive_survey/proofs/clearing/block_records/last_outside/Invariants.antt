use Rattle.std.proofs.Common.{length}
use Rattle.drive_survey.specs.BlockRecords.{OthersIn}
use Rattle.drive_survey.proofs.clearing.block_records.last_outside.Given as goal

abbrev pub invariant-loop-found : goal.invariant-loop-found
invariant-loop-found l = OthersIn l.held l.zone l.entries

abbrev pub decreases-loop-found : goal.decreases-loop-found
decreases-loop-found l = length l.entries
