use Rattle.std.proofs.Common.{rules, refl}
use Rattle.zone_drive.proofs.ChangeLaws.{leaves-sent}
use Rattle.zone_drive.proofs.HeldLaws.{holds-after, holds-same}
use Rattle.zone_drive.proofs.zone_drive.ZoneDrive.apply.Goals as goal

pub invariant_of-self : goal.invariant_of-self
invariant_of-self g c = holds-same g.Z.HeldZones c.self.inside c.self.invariant c.apply.new.self (search rules) c.apply.ensures.shape c.apply.ensures.durable

pub invariant_of-self-2 : goal.invariant_of-self-2
invariant_of-self-2 g c =
    let inside = c.self.inside in
    let held = c.self.invariant in
    let leaves = leaves-sent inside.geometry (g.Z.HeldZones.stored inside.zones) c.args.number c.args.action c.requires.other held.0 held.1 (rw (← c.self.view_is) at c.requires.in_range) in
    holds-after g.Z.HeldZones inside held c.apply.new.self (rw c.in_ok-apply.ensures.ok leaves.are) c.in_ok-apply.ensures.shape (rw c.apply.ensures.durable held.7)

pub returns-clause-ok : goal.returns-clause-ok
returns-clause-ok g c =
    let inside = c.self.inside in
    let held = c.self.invariant in
    let leaves = leaves-sent inside.geometry (g.Z.HeldZones.stored inside.zones) c.args.number c.args.action c.requires.other held.0 held.1 (rw (← c.self.view_is) at c.requires.in_range) in
    rw (← c.self.view_is, c.apply.ensures.durable, c.in_ok-apply.ensures.ok, leaves.in_blocks) refl
