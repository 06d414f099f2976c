use Rattle.std.proofs.Common.{subst, sym}
use Rattle.drive_port.specs.Step.{zone_at}
use Rattle.zone_drive.specs.Choice.{RoomGives}
use Rattle.zone_drive.specs.Held.{HeldDrive}
use Rattle.zone_drive.proofs.ForeseeLaws.{could-write}
use Rattle.zone_drive.proofs.zone_drive.ZoneDrive.write_room_refusal.Goals as goal

pub returns-clause-could : goal.returns-clause-could
returns-clause-could g c =
    let gives = subst (λ (d : HeldDrive _). RoomGives d.drive.habit d.drive.state.geometry d.drive.state.zones (zone_at d.drive.state.zones c.args.number) c.room_for.result) (sym c.self.view_is) c.room_for.ensures in
    rw (c.err.ensures.value, ← c.self.view_is)
    (could-write c.self.inside.geometry (g.Z.HeldZones.stored c.self.inside.zones) _ c.self.inside.completed c.self.inside.refused c.self.inside.appended c.self.inside.habit c.self.inside.halted c.self.inside.failed c.self.invariant.0 c.self.invariant.1 c.self.invariant.4 c.args.number c.args.bytes.now c.room_for.result (rw (← c.self.view_is) at c.requires.in_range) (rw (← c.self.view_is) at c.requires.checks) gives)
