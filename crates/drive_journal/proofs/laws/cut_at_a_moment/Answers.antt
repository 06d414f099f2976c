use Rattle.drive_journal.proofs.MomentLaws.{cut-at-a-moment}
use Rattle.drive_journal.proofs.laws.cut_at_a_moment.Goals as goal

pub returns : goal.returns
returns c = cut-at-a-moment
