use Rattle.std.proofs.Common.{Ok, true, [], map, refl}
use Rattle.nvme_wire.specs.declared.command.Command.TheVariants.{Send}
use Rattle.drive_port.specs.Step.{sent_zone}
use Rattle.zone_drive.specs.Habits.{with_zones}
use Rattle.zone_drive.proofs.ForeseeLaws.{could-send-all, foresees-by}
use Rattle.zone_drive.proofs.OutcomeLaws.{gives-all}
use Rattle.zone_drive.proofs.zone_drive.ZoneDrive.foresee_send_to_all.Goals as goal

pub returns : goal.returns
returns g c = λ bytes.
    let next = with_zones c.args.self.now.drive (map (sent_zone c.args.action) c.args.self.now.drive.state.zones) in
    foresees-by c.args.self.now.drive next (Ok (Send c.args.slba c.args.action true)) bytes [] _ (gives-all c.args.self.now.drive next c.args.slba c.args.action bytes refl)
    (rw (← c.self.view_is) (could-send-all c.self.inside.geometry (g.Z.HeldZones.stored c.self.inside.zones) _ c.self.inside.completed c.self.inside.refused c.self.inside.appended c.self.inside.habit c.self.inside.halted c.self.inside.failed c.self.invariant.0 c.self.invariant.1 c.self.invariant.4 c.args.action))
