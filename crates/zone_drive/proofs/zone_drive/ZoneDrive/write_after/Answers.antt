use Rattle.std.proofs.Common.{rules, Ok, refl, subst, sym, ◌∙◌}
use Rattle.drive_port.specs.Step.{zone_at}
use Rattle.zone_drive.specs.Choice.{RoomGives}
use Rattle.zone_drive.specs.Held.{HeldDrive}
use Rattle.zone_drive.proofs.ChangeLaws.{leaves-written}
use Rattle.zone_drive.proofs.HeldLaws.{holds-after, holds-same}
use Rattle.zone_drive.proofs.zone_drive.ZoneDrive.write_after.Goals as goal

pub invariant_of-self : goal.invariant_of-self
invariant_of-self g c = holds-same g.Z.HeldZones c.self.inside c.self.invariant c.write.new.self (search rules) c.write.ensures.shape c.write.ensures.durable

pub invariant_of-self-2 : goal.invariant_of-self-2
invariant_of-self-2 g c =
    let inside = c.self.inside in
    let held = c.self.invariant in
    let gives = subst (λ (d : HeldDrive _). RoomGives d.drive.habit d.drive.state.geometry d.drive.state.zones (zone_at d.drive.state.zones c.args.number) (Ok c.in-Ok.closing)) (sym c.self.view_is) c.in-Ok.ensures in
    let leaves = leaves-written inside.habit inside.geometry (g.Z.HeldZones.stored inside.zones) c.args.number c.args.bytes.now c.in-Ok.closing held.0 held.1 (rw (← c.self.view_is) at c.requires.in_range) (rw (← c.self.view_is) at c.requires.checks) gives in
    holds-after g.Z.HeldZones inside held c.close.new.self (rw (c.close.ensures.closed, c.in_ok-write.ensures.ok, held.2) leaves.are) (c.close.ensures.shape ∙ c.in_ok-write.ensures.shape) (rw (c.close.ensures.durable, c.write.ensures.durable) held.7)

pub returns-clause-ok : goal.returns-clause-ok
returns-clause-ok g c =
    let inside = c.self.inside in
    let held = c.self.invariant in
    let gives = subst (λ (d : HeldDrive _). RoomGives d.drive.habit d.drive.state.geometry d.drive.state.zones (zone_at d.drive.state.zones c.args.number) (Ok c.in-Ok.closing)) (sym c.self.view_is) c.in-Ok.ensures in
    let leaves = leaves-written inside.habit inside.geometry (g.Z.HeldZones.stored inside.zones) c.args.number c.args.bytes.now c.in-Ok.closing held.0 held.1 (rw (← c.self.view_is) at c.requires.in_range) (rw (← c.self.view_is) at c.requires.checks) gives in
    (c.in-Ok.closing, c.in-Ok.ensures, rw (← c.self.view_is, c.close.ensures.durable, c.write.ensures.durable, c.close.ensures.closed, c.in_ok-write.ensures.ok, held.2, leaves.in_blocks) refl)
