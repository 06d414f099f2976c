use Rattle.drive_port.proofs.ClosingLaws.{IsClosing-refl}
use Rattle.passthrough.proofs.failing.failure.Goals as goal

pub returns-then-status-ge-NO_ANSWER-clause-closes : goal.returns-then-status-ge-NO_ANSWER-clause-closes
returns-then-status-ge-NO_ANSWER-clause-closes g c = IsClosing-refl _
