use Rattle.drive_port.proofs.ClosingLaws.{IsClosing-refl}
use Rattle.passthrough.proofs.ReadLaws.{room-joins}
use Rattle.passthrough.proofs.reading.read_room.Goals as goal

pub returns-in-Some-clause-done : goal.returns-in-Some-clause-done
returns-in-Some-clause-done g c = λ done.
    room-joins _ _ _ _ _ _ _ _ c.requires.some (c.in-Some.ensures _ c.requires.ready.leads.lawful c.requires.ready.are) c.requires.zeros (c.read_front.ensures.done done)

pub returns-in-None-clause-closes : goal.returns-in-None-clause-closes
returns-in-None-clause-closes g c = IsClosing-refl _
