use Rattle.drive_journal.proofs.CutLaws.{chained}
use Rattle.drive_journal.proofs.laws.changes_are_chained.Goals as goal

pub returns : goal.returns
returns c = chained
