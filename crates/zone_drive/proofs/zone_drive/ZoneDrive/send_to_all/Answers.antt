use Rattle.std.proofs.Common.{rules, refl}
use Rattle.zone_drive.proofs.SendLaws.{are-all, zones_of-sent}
use Rattle.zone_drive.proofs.HeldLaws.{holds-after, holds-same}
use Rattle.zone_drive.proofs.zone_drive.ZoneDrive.send_to_all.Goals as goal

pub invariant_of-self : goal.invariant_of-self
invariant_of-self g c = holds-same g.Z.HeldZones c.self.inside c.self.invariant c.apply_to_all.new.self (search rules) c.apply_to_all.ensures.shape c.apply_to_all.ensures.durable

pub invariant_of-self-2 : goal.invariant_of-self-2
invariant_of-self-2 g c =
    let inside = c.self.inside in
    let held = c.self.invariant in
    holds-after g.Z.HeldZones inside held c.apply_to_all.new.self (rw c.in_ok-apply_to_all.ensures.ok (are-all inside.geometry (g.Z.HeldZones.stored inside.zones) c.args.action held.0 held.1)) c.in_ok-apply_to_all.ensures.shape (rw c.apply_to_all.ensures.durable held.7)

pub returns-clause-ok : goal.returns-clause-ok
returns-clause-ok g c =
    let inside = c.self.inside in
    rw (← c.self.view_is, c.apply_to_all.ensures.durable, c.in_ok-apply_to_all.ensures.ok, zones_of-sent inside.geometry.block c.args.action (g.Z.HeldZones.stored inside.zones)) refl
