use Rattle.drive_port.proofs.ClosingLaws.{IsClosing-refl}
use Rattle.passthrough.proofs.FlushLaws.{covered-ok}
use Rattle.passthrough.proofs.flushing.look_at_stretch.Goals as goal

pub returns-clause-seen : goal.returns-clause-seen
returns-clause-seen g c = covered-ok _ _ _ _ _ _ _ _ _ _ c.due_stretch-from.ensures c.look.ensures.seen

pub returns-then-some-eq0-clause-closes : goal.returns-then-some-eq0-clause-closes
returns-then-some-eq0-clause-closes g c = IsClosing-refl _
