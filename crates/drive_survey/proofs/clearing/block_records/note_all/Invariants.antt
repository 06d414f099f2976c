use Rattle.std.proofs.Common.{◌≡◌, ◌<◌, ◌^◌, length}
use Rattle.drive_survey.specs.BlockRecords.{HoldsMore}
use Rattle.drive_survey.proofs.NewestListLaws.{NotedSoFar}
use Rattle.drive_survey.proofs.clearing.block_records.note_all.Given as goal

abbrev pub invariant-loop-number : goal.invariant-loop-number
invariant-loop-number l = HoldsMore l.fn.table l.table × (length l.scanned < 2 ^ 32 → NotedSoFar l.fn.table l.table l.scanned l.number) × (l.table.own ≡ l.fn.table.own)
