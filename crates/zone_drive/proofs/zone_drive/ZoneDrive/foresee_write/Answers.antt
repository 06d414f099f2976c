use Rattle.std.proofs.Common.{Ok, [], ap}
use Rattle.nvme_wire.specs.declared.command.Command.TheVariants.{Write}
use Rattle.zone_drive.specs.Held.{HeldDrive}
use Rattle.zone_drive.proofs.ForeseeLaws.{write-foreseen, foresees-by, lawful-now}
use Rattle.zone_drive.proofs.OutcomeLaws.{write-refused}
use Rattle.zone_drive.proofs.zone_drive.ZoneDrive.foresee_write.Goals as goal

pub returns-in-Some : goal.returns-in-Some
returns-in-Some g c =
    foresees-by c.args.self.now.drive c.args.self.now.drive (Ok (Write c.args.slba c.args.blocks)) c.args.bytes.now [] (record { status = c.in-Some.status; value = 0 })
    (write-refused c.args.self.now.drive c.args.slba c.args.blocks c.args.bytes.now c.in-Some.status c.in-Some.ensures.checks)
    (lawful-now c.self.inside.geometry (g.Z.HeldZones.stored c.self.inside.zones) _ c.self.inside.completed c.self.inside.refused c.self.inside.appended c.self.inside.habit c.self.inside.halted c.self.inside.failed c.self.invariant.0 c.self.invariant.1 c.self.invariant.4 c.args.self.now.drive (ap (λ (d : HeldDrive _). d.drive) c.self.view_is))

pub returns : goal.returns
returns g c =
    let number = rw (ap (λ (d : HeldDrive _). d.drive.state.geometry) c.self.view_is) at c.zone_of.ensures.value in
    rw c.unwrap_or.ensures
    (write-foreseen c.args.self.now.drive c.args.slba c.args.blocks c.args.bytes.now c.write_room_refusal.result c.in_default.ensures.checks c.in_default.ensures.count c.write_room_refusal.ensures.limit
    (rw number at c.write_room_refusal.ensures.could))
