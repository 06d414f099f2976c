use Rattle.std.proofs.Common.{◌/◌, ◌<◌, length, refl}
use Rattle.zone_states.proofs.Cutting.{length-cut}
use Rattle.zone_drive.specs.Table.{stored_at}
use Rattle.zone_drive.proofs.ReceiveLaws.{stored-fits}
use Rattle.zone_drive.proofs.WriteLaws.{zone_at-is}
use Rattle.zone_drive.proofs.zone_drive.ZoneDrive.written_in.Goals as goal

pub returns-clause-value : goal.returns-clause-value
returns-clause-value g c =
    let inside = c.self.inside in
    let zones = g.Z.HeldZones.stored inside.zones in
    let block = inside.geometry.block in
    let below : c.args.number < length zones = rw (c.self.invariant.1.count) (rw (← c.self.view_is) at c.requires) in
    let bytes = (stored_at zones c.args.number).bytes in
    rw (← c.self.view_is, zone_at-is block zones c.args.number below, length-cut block (length bytes / block) bytes, c.written.ensures) refl

pub returns-clause-few : goal.returns-clause-few
returns-clause-few g c =
    let inside = c.self.inside in
    rw c.written.ensures
    (stored-fits inside.geometry (g.Z.HeldZones.stored inside.zones) c.args.number c.self.invariant.0 c.self.invariant.1 (rw (← c.self.view_is) at c.requires))
