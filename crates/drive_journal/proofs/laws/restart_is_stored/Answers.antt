use Rattle.drive_journal.proofs.MeaningLaws.{restart-stored}
use Rattle.drive_journal.proofs.laws.restart_is_stored.Goals as goal

pub returns : goal.returns
returns c = restart-stored
