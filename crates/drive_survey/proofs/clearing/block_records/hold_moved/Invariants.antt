use Rattle.std.proofs.Common.{◌<◌, ◌^◌, length}
use Rattle.drive_survey.specs.BlockRecords.{HasNoRecord}
use Rattle.drive_survey.specs.Clearing.{AreFew, AreOwn}
use Rattle.drive_survey.proofs.RecordHoldLaws.{CoversBelow}
use Rattle.drive_survey.proofs.clearing.block_records.hold_moved.Given as goal

abbrev pub invariant-loop-number : goal.invariant-loop-number
invariant-loop-number l = HasNoRecord l.table × (length l.scanned < 2 ^ 32 → CoversBelow l.scanned l.table l.number) × AreFew l.scanned l.table × AreOwn l.scanned l.table
