use Rattle.std.proofs.Common.{sym}
use Rattle.nvme_wire.specs.Entry.{decode_of}
use Rattle.drive_port.specs.Stop.{drive_of}
use Rattle.drive_port.proofs.StopLaws.{passed-on, stops-already}
use Rattle.drive_port.proofs.stop.StopAfterDevice.submit.Goals as goal

pub returns-then-stopped-clause-gives : goal.returns-then-stopped-clause-gives
returns-then-stopped-clause-gives g c = (c.clear.ensures.items, stops-already (drive_of c.args.self.now) (decode_of c.args.entry.now) c.args.bytes.now (sym c.if-stopped.ensures.value))

pub returns-clause-gives : goal.returns-clause-gives
returns-clause-gives g c =
    rw (← c.self.view_is) (passed-on (g.D.Device.drive c.self.inside.device) (g.D.Device.drive c.submit.new.self) c.self.inside.limit c.self.inside.tear c.self.inside.uncounted c.self.inside.progress c.args.entry.now c.args.bytes.now c.submit.result c.submit.new.into.items c.self.invariant (rw (← c.self.view_is) at (sym c.if-stopped.ensures.value)) c.submit.ensures.gives)
