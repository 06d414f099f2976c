use Rattle.std.proofs.Common.{ap}
use Rattle.zone_drive.specs.Held.{HeldDrive}
use Rattle.drive_port.proofs.CallLaws.{adds-nothing}
use Rattle.zone_drive.proofs.ReceiveLaws.{receive-refused, receive-reported}
use Rattle.zone_drive.proofs.zone_drive.ZoneDrive.receive.Goals as goal

pub returns-in_ok-extend_from_slice-in-Ok-clause-ok : goal.returns-in_ok-extend_from_slice-in-Ok-clause-ok
returns-in_ok-extend_from_slice-in-Ok-clause-ok g c = λ bytes.
    let given = rw (ap (λ (d : HeldDrive _). d.drive.state.geometry) c.self.view_is) at c.in-Ok.ensures.ok in
    rw c.done.ensures (record {
      returned = c.in-Ok.bytes.items;
      joined = rw c.deref.ensures.value at c.in_ok-extend_from_slice-in-Ok.ensures.items;
      given = receive-reported c.args.self.now.drive c.args.slba c.args.dwords c.args.options c.args.partial bytes _ given.0.1 given.1;
    })

pub returns-in-Err-Range-clause-ok : goal.returns-in-Err-Range-clause-ok
returns-in-Err-Range-clause-ok g c = λ bytes.
    let given = rw (ap (λ (d : HeldDrive _). d.drive.state.geometry) c.self.view_is, c.in-Err-Range.field-0-is) at c.in-Err-Range.ensures.err in
    rw c.refused.ensures (adds-nothing _ _ (receive-refused c.args.self.now.drive c.args.slba c.args.dwords c.args.options c.args.partial bytes given.1))
