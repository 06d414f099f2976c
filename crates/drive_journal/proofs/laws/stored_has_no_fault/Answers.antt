use Rattle.drive_journal.proofs.NoFaultLaws.{stored-no-fault}
use Rattle.drive_journal.proofs.laws.stored_has_no_fault.Goals as goal

pub returns : goal.returns
returns c = stored-no-fault
