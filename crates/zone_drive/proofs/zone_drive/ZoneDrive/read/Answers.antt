use Rattle.std.proofs.Common.{◌%◌, ap}
use Rattle.drive_port.proofs.CallLaws.{adds-nothing}
use Rattle.zone_drive.specs.Held.{HeldDrive}
use Rattle.zone_drive.proofs.OutcomeLaws.{read-done, read-refused}
use Rattle.zone_drive.proofs.ReadLaws.{zone-shows}
use Rattle.zone_drive.proofs.zone_drive.ZoneDrive.read.Goals as goal

pub returns-in_ok-read-in-Ok-clause-ok : goal.returns-in_ok-read-in-Ok-clause-ok
returns-in_ok-read-in-Ok-clause-ok g c = λ bytes.
    let inside = c.self.inside in
    let below = rw (← c.self.view_is) at c.in-Ok.ensures.in_range in
    let number = rw (← c.self.view_is) at c.in-Ok.ensures.zone in
    let from = rw (← c.self.view_is) at c.in-Ok.ensures.from in
    let shows = zone-shows inside.geometry (g.Z.HeldZones.stored inside.zones) c.in-Ok.number (c.args.slba % inside.geometry.size) c.args.blocks c.self.invariant.1 below in
    let same = ap (λ (d : HeldDrive _). d.drive) c.self.view_is in
    rw (c.done.ensures, c.read.ensures.stored, c.read.ensures.durable, same) (record {
      returned = _;
      joined = c.in_ok-read-in-Ok.ensures.ok;
      given = read-done c.args.self.now.drive c.args.slba c.args.blocks bytes _ c.in-Ok.ensures.passed (rw (← c.self.view_is, ← number) (rw (← from) at shows));
    })

pub returns-in-Err-clause-ok : goal.returns-in-Err-clause-ok
returns-in-Err-clause-ok g c = λ bytes.
    rw c.refused.ensures (adds-nothing _ _ (read-refused c.args.self.now.drive c.args.slba c.args.blocks bytes c.in-Err.status c.in-Err.ensures.refused))
