use Rattle.std.proofs.Common.{Ok, [], ap}
use Rattle.nvme_wire.specs.declared.command.Command.TheVariants.{Receive}
use Rattle.zone_drive.specs.Held.{HeldDrive}
use Rattle.zone_drive.proofs.ForeseeLaws.{foresees-by, lawful-now, receive-foreseen}
use Rattle.zone_drive.proofs.ReceiveLaws.{receive-refused}
use Rattle.zone_drive.proofs.zone_drive.ZoneDrive.foresee_receive.Goals as goal

pub returns-then-slba-end : goal.returns-then-slba-end
returns-then-slba-end g c = λ dwords options partial bytes.
    foresees-by c.args.self.now.drive c.args.self.now.drive (Ok (Receive c.args.slba dwords options partial)) bytes [] _
    (receive-refused c.args.self.now.drive c.args.slba dwords options partial bytes (rw (c.end.ensures, ap (λ (d : HeldDrive _). d.drive.state.geometry) c.self.view_is) at c.if-slba-end.true))
    (lawful-now c.self.inside.geometry (g.Z.HeldZones.stored c.self.inside.zones) _ c.self.inside.completed c.self.inside.refused c.self.inside.appended c.self.inside.habit c.self.inside.halted c.self.inside.failed c.self.invariant.0 c.self.invariant.1 c.self.invariant.4 c.args.self.now.drive (ap (λ (d : HeldDrive _). d.drive) c.self.view_is))

pub returns : goal.returns
returns g c = λ dwords options partial bytes.
    receive-foreseen c.args.self.now.drive c.args.slba dwords options partial bytes (rw (c.end.ensures, ap (λ (d : HeldDrive _). d.drive.state.geometry) c.self.view_is) at c.if-slba-end.false) (lawful-now c.self.inside.geometry (g.Z.HeldZones.stored c.self.inside.zones) _ c.self.inside.completed c.self.inside.refused c.self.inside.appended c.self.inside.habit c.self.inside.halted c.self.inside.failed c.self.invariant.0 c.self.invariant.1 c.self.invariant.4 c.args.self.now.drive (ap (λ (d : HeldDrive _). d.drive) c.self.view_is))
