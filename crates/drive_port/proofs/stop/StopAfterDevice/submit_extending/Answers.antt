use Rattle.std.proofs.Common.{[], refl, sym, inl}
use Rattle.nvme_wire.specs.Entry.{decode_of}
use Rattle.drive_port.specs.declared.progress.Progress.TheVariants.{Over}
use Rattle.drive_port.specs.Stop.{drive_of}
use Rattle.drive_port.proofs.CallLaws.{adds-also, adds-nothing}
use Rattle.drive_port.proofs.ClosingLaws.{IsClosing-refl}
use Rattle.drive_port.proofs.StopLaws.{passed-on, stopping, stops-already, stops-here}
use Rattle.drive_port.proofs.stop.StopAfterDevice.submit_extending.Goals as goal

pub returns-then-stopped-clause-gives : goal.returns-then-stopped-clause-gives
returns-then-stopped-clause-gives g c = adds-nothing _ _ (refl, stops-already (drive_of c.args.self.now) (decode_of c.args.entry.now) _ (sym c.if-stopped.ensures.value))

pub returns-then-self-completed-clause-gives : goal.returns-then-self-completed-clause-gives
returns-then-self-completed-clause-gives g c =
    let inner = g.D.Device.drive c.self.inside.device in
    let s = stopping inner c.self.inside.limit c.self.inside.tear c.self.inside.uncounted c.self.inside.progress in
    adds-nothing _ _ (refl, rw (← c.self.view_is) (stops-here s (record s { progress = Over }) (decode_of c.args.entry.now) [] (rw (← c.self.view_is) at (sym c.if-stopped.ensures.value)) refl refl refl refl refl (inl (IsClosing-refl inner.zones)) refl (λ clean. clean) (λ clean. clean) refl))

pub returns-clause-gives : goal.returns-clause-gives
returns-clause-gives g c =
    rw (← c.self.view_is) (adds-also _ _ _ _ (λ returned. passed-on (g.D.Device.drive c.self.inside.device) (g.D.Device.drive c.submit_extending.new.self) c.self.inside.limit c.self.inside.tear c.self.inside.uncounted c.self.inside.progress c.args.entry.now [] c.submit_extending.result returned c.self.invariant (rw (← c.self.view_is) at (sym c.if-stopped.ensures.value))) c.submit_extending.ensures.gives)
