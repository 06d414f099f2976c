use Rattle.std.proofs.Common.{sym}
use Rattle.nvme_wire.specs.Entry.{decode_of}
use Rattle.drive_port.proofs.StopLaws.{stops-already}
use Rattle.drive_port.proofs.recorder.RecorderDevice.submit.Goals as goal

pub returns-then-stopped-clause-gives : goal.returns-then-stopped-clause-gives
returns-then-stopped-clause-gives g c =
    rw (← c.self.view_is) (c.clear.ensures.items, stops-already (g.D.Device.drive c.self.inside.device) (decode_of c.args.entry.now) c.args.bytes.now (sym c.if-stopped.ensures.value))
