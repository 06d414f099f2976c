use Rattle.std.proofs.Common.{rules, Ok, refl, subst, sym, ◌∙◌}
use Rattle.drive_port.specs.Step.{zone_at}
use Rattle.zone_drive.specs.Choice.{RoomGives}
use Rattle.zone_drive.specs.Held.{HeldDrive}
use Rattle.zone_drive.proofs.ChangeLaws.{leaves-opened}
use Rattle.zone_drive.proofs.HeldLaws.{holds-after, holds-same}
use Rattle.zone_drive.proofs.zone_drive.ZoneDrive.open.Goals as goal

pub invariant_of-self : goal.invariant_of-self
invariant_of-self g c = holds-same g.Z.HeldZones c.self.inside c.self.invariant c.apply.new.self (search rules) c.apply.ensures.shape c.apply.ensures.durable

pub invariant_of-self-2 : goal.invariant_of-self-2
invariant_of-self-2 g c =
    let inside = c.self.inside in
    let held = c.self.invariant in
    let gives = subst (λ (d : HeldDrive _). RoomGives d.drive.habit d.drive.state.geometry d.drive.state.zones (zone_at d.drive.state.zones c.args.number) (Ok c.in-Ok.closing)) (sym c.self.view_is) c.in-Ok.ensures in
    let leaves = leaves-opened inside.habit inside.geometry (g.Z.HeldZones.stored inside.zones) c.args.number c.in-Ok.closing held.0 held.1 (rw (← c.self.view_is) at c.requires) gives in
    holds-after g.Z.HeldZones inside held c.close.new.self (rw (c.close.ensures.closed, c.in_ok-apply.ensures.ok) leaves.are) (c.close.ensures.shape ∙ c.in_ok-apply.ensures.shape) (rw (c.close.ensures.durable, c.apply.ensures.durable) held.7)

pub returns-clause-opens : goal.returns-clause-opens
returns-clause-opens g c =
    let inside = c.self.inside in
    let held = c.self.invariant in
    let gives = subst (λ (d : HeldDrive _). RoomGives d.drive.habit d.drive.state.geometry d.drive.state.zones (zone_at d.drive.state.zones c.args.number) (Ok c.in-Ok.closing)) (sym c.self.view_is) c.in-Ok.ensures in
    let leaves = leaves-opened inside.habit inside.geometry (g.Z.HeldZones.stored inside.zones) c.args.number c.in-Ok.closing held.0 held.1 (rw (← c.self.view_is) at c.requires) gives in
    (c.in-Ok.closing, c.in-Ok.ensures, rw (← c.self.view_is, c.close.ensures.durable, c.apply.ensures.durable, c.close.ensures.closed, c.in_ok-apply.ensures.ok, leaves.in_blocks) refl)
