use Rattle.drive_port.proofs.ClosingLaws.{IsClosing-refl}
use Rattle.passthrough.proofs.flushing.flush_before.Goals as goal

pub returns-then-ne-clause-closes : goal.returns-then-ne-clause-closes
returns-then-ne-clause-closes g c = IsClosing-refl _
