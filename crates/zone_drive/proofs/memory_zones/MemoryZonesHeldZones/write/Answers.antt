use Rattle.std.proofs.Common.{sym}
use Rattle.zone_states.specs.Stored.{StoredZone}
use Rattle.zone_drive.proofs.TableLaws.{counted-back}
use Rattle.zone_drive.proofs.memory_zones.MemoryZonesHeldZones.write.Goals as goal

pub follow-requires-clause-counted : goal.follow-requires-clause-counted
follow-requires-clause-counted c =
    let was = c.index_mut-zone.result.now in
    (was, sym c.state-before.ensures, rw c.deref.ensures.value (counted-back (λ (zone : StoredZone). zone.state) c.self.inside.zones.items c.self.inside.resources c.args.index was c.extend.new.self c.index_mut-zone.ensures.value c.self.invariant))
