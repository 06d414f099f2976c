use Rattle.std.proofs.Common.{Ok, [], refl, ap, arith}
use Rattle.nvme_wire.specs.declared.command.Command.TheVariants.{Flush}
use Rattle.zone_drive.specs.Habits.{with_durable}
use Rattle.zone_drive.specs.Held.{HeldDrive}
use Rattle.zone_drive.proofs.ForeseeLaws.{foresees-by, lawful-durable, lawful-now}
use Rattle.zone_drive.proofs.OutcomeLaws.{gives-flush}
use Rattle.zone_drive.proofs.zone_drive.ZoneDrive.foresee_command.Goals as goal

pub returns-in-Flush : goal.returns-in-Flush
returns-in-Flush g c =
    let next = with_durable c.args.self.now.drive [] in
    rw c.in-Flush.is (foresees-by c.args.self.now.drive next (Ok Flush) c.args.bytes.now [] _ (gives-flush c.args.self.now.drive next c.args.bytes.now refl (λ zones left. absurd (omega (arith, left.1))))
    (lawful-durable next.state c.args.self.now.drive.state.durable (lawful-now c.self.inside.geometry (g.Z.HeldZones.stored c.self.inside.zones) _ c.self.inside.completed c.self.inside.refused c.self.inside.appended c.self.inside.habit c.self.inside.halted c.self.inside.failed c.self.invariant.0 c.self.invariant.1 c.self.invariant.4 c.args.self.now.drive (ap (λ (d : HeldDrive _). d.drive) c.self.view_is))))
