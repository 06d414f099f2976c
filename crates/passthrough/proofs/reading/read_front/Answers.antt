use Rattle.std.proofs.Common.{refl}
use Rattle.drive_port.proofs.ClosingLaws.{IsClosing-refl}
use Rattle.passthrough.proofs.ReadyLaws.{query-left}
use Rattle.passthrough.proofs.reading.read_front.Goals as goal

pub returns-clause-closes : goal.returns-clause-closes
returns-clause-closes g c = query-left _ _ _ _ _ refl c.submit.ensures.answers.left

pub returns-then-count-eq0-clause-closes : goal.returns-then-count-eq0-clause-closes
returns-then-count-eq0-clause-closes g c = IsClosing-refl _
