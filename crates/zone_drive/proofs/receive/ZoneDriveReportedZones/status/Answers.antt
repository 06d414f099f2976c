use Rattle.std.proofs.Common.{arith}
use Rattle.std.proofs.lemmas.List.{length-map}
use Rattle.zone_states.specs.Stored.{zone_stored}
use Rattle.zone_drive.proofs.receive.ZoneDriveReportedZones.status.Goals as goal

pub state_of-requires : goal.state_of-requires
state_of-requires g c =
    let block = c.self.inside.geometry.block in
    let long = length-map (g.Z.HeldZones.stored c.self.inside.zones) (zone_stored block) in
    let below = rw (← c.self.view_is) at c.requires in
    rw (← c.self.view_is) (omega (arith, below, long, c.self.invariant.1.count))

pub written_in-requires : goal.written_in-requires
written_in-requires g c =
    let block = c.self.inside.geometry.block in
    let long = length-map (g.Z.HeldZones.stored c.self.inside.zones) (zone_stored block) in
    let below = rw (← c.self.view_is) at c.requires in
    rw (← c.self.view_is) (omega (arith, below, long, c.self.invariant.1.count))
