use Rattle.drive_journal.proofs.MeaningLaws.{stored-length, stored-read}
use Rattle.drive_journal.proofs.laws.stored_is_read.Goals as goal

pub returns-clause-drive : goal.returns-clause-drive
returns-clause-drive c = stored-read

pub returns-clause-whole : goal.returns-clause-whole
returns-clause-whole c = stored-length
