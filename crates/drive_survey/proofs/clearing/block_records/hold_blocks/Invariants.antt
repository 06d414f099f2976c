use Rattle.std.proofs.Common.{◌≡◌, drop}
use Rattle.drive_survey.proofs.RecordHoldLaws.{HoldsSoFar}
use Rattle.drive_survey.proofs.clearing.block_records.hold_blocks.Given as goal

abbrev pub invariant-loop-found : goal.invariant-loop-found
invariant-loop-found l = HoldsSoFar l.fn.table l.table l.own (drop l.found-index l.own) × (l.table.own ≡ l.fn.table.own)
