use Rattle.drive_journal.proofs.CutLaws.{not-back}
use Rattle.drive_journal.proofs.laws.no_change_comes_back.Goals as goal

pub returns : goal.returns
returns c = not-back
