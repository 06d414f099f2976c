use Rattle.drive_port.proofs.ClosingLaws.{IsClosing-refl, IsClosing-trans}
use Rattle.drive_port.proofs.laws.closings_join.Goals as goal

pub returns-clause-none : goal.returns-clause-none
returns-clause-none c = IsClosing-refl

pub returns-clause-both : goal.returns-clause-both
returns-clause-both c = IsClosing-trans
