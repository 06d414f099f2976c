use Rattle.drive_journal.proofs.MeaningLaws.{opened-stored}
use Rattle.drive_journal.proofs.laws.opened_is_stored.Goals as goal

pub returns : goal.returns
returns c = opened-stored
