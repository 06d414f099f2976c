use Rattle.std.proofs.Common.{Ok, [], ap}
use Rattle.nvme_wire.specs.declared.command.Command.TheVariants.{Read}
use Rattle.zone_drive.specs.Held.{HeldDrive}
use Rattle.zone_drive.proofs.ForeseeLaws.{foresees-by, lawful-now, read-foreseen}
use Rattle.zone_drive.proofs.OutcomeLaws.{read-refused}
use Rattle.zone_drive.proofs.zone_drive.ZoneDrive.foresee_read.Goals as goal

pub returns-in-Ok : goal.returns-in-Ok
returns-in-Ok g c = λ bytes. read-foreseen c.args.self.now.drive c.args.slba c.args.blocks bytes c.in-Ok.ensures.passed (lawful-now c.self.inside.geometry (g.Z.HeldZones.stored c.self.inside.zones) _ c.self.inside.completed c.self.inside.refused c.self.inside.appended c.self.inside.habit c.self.inside.halted c.self.inside.failed c.self.invariant.0 c.self.invariant.1 c.self.invariant.4 c.args.self.now.drive (ap (λ (d : HeldDrive _). d.drive) c.self.view_is))

pub returns-in-Err : goal.returns-in-Err
returns-in-Err g c = λ bytes.
    foresees-by c.args.self.now.drive c.args.self.now.drive (Ok (Read c.args.slba c.args.blocks)) bytes [] (record { status = c.in-Err.status; value = 0 })
    (read-refused c.args.self.now.drive c.args.slba c.args.blocks bytes c.in-Err.status c.in-Err.ensures.refused)
    (lawful-now c.self.inside.geometry (g.Z.HeldZones.stored c.self.inside.zones) _ c.self.inside.completed c.self.inside.refused c.self.inside.appended c.self.inside.habit c.self.inside.halted c.self.inside.failed c.self.invariant.0 c.self.invariant.1 c.self.invariant.4 c.args.self.now.drive (ap (λ (d : HeldDrive _). d.drive) c.self.view_is))
