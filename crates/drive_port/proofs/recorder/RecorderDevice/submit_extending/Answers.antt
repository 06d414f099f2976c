use Rattle.std.proofs.Common.{refl, sym}
use Rattle.nvme_wire.specs.Entry.{decode_of}
use Rattle.drive_port.proofs.CallLaws.{adds-nothing}
use Rattle.drive_port.proofs.StopLaws.{stops-already}
use Rattle.drive_port.proofs.recorder.RecorderDevice.submit_extending.Goals as goal

pub returns-then-stopped-clause-gives : goal.returns-then-stopped-clause-gives
returns-then-stopped-clause-gives g c =
    rw (← c.self.view_is) (adds-nothing _ _ (refl, stops-already (g.D.Device.drive c.self.inside.device) (decode_of c.args.entry.now) _ (sym c.if-stopped.ensures.value)))
