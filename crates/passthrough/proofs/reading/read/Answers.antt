use Rattle.std.proofs.Common.{refl}
use Rattle.drive_port.proofs.ClosingLaws.{IsClosing-refl}
use Rattle.passthrough.proofs.ReadyLaws.{ready-closing}
use Rattle.passthrough.proofs.reading.read.Goals as goal

pub returns-then-is_err-clause-err : goal.returns-then-is_err-clause-err
returns-then-is_err-clause-err g c = (λ memory. refl, IsClosing-refl _)

pub returns-then-read_room-clause-ready : goal.returns-then-read_room-clause-ready
returns-then-read_room-clause-ready g c = ready-closing _ _ _ _ _ _ c.requires.ready c.read_room.ensures.leads c.read_room.ensures.closes

pub returns-else-read_room-clause-ready : goal.returns-else-read_room-clause-ready
returns-else-read_room-clause-ready g c = ready-closing _ _ _ _ _ _ c.requires.ready c.read_room.ensures.leads c.read_room.ensures.closes

pub returns-then-is_err-clause-closes : goal.returns-then-is_err-clause-closes
returns-then-is_err-clause-closes g c = IsClosing-refl _
