use Rattle.std.proofs.Common.{refl}
use Rattle.drive_survey.proofs.RecordHoldLaws.{no-own}
use Rattle.drive_survey.proofs.clearing.block_records.BlockRecords.new.Goals as goal

pub returns-clause-own : goal.returns-clause-own
returns-clause-own c zone = no-own c.new-2.result zone c.new-2.ensures.empty

pub returns-clause-held : goal.returns-clause-held
returns-clause-held c block = rw c.new.ensures.empty refl
