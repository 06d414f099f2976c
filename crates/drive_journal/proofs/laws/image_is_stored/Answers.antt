use Rattle.drive_journal.proofs.MeaningLaws.{image-stored}
use Rattle.drive_journal.proofs.laws.image_is_stored.Goals as goal

pub returns : goal.returns
returns c = image-stored
