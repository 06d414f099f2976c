use Rattle.drive_port.proofs.ClosingLaws.{IsClosing-refl}
use Rattle.passthrough.proofs.drive.PassthroughDrive.try_read.Goals as goal

pub returns-then-self-clause-closes : goal.returns-then-self-clause-closes
returns-then-self-clause-closes g c = IsClosing-refl _

pub returns-clause-closes : goal.returns-clause-closes
returns-clause-closes g c = rw (← c.self.view_is) c.read.ensures.closes
