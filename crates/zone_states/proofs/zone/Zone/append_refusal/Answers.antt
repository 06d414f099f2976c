use Rattle.std.proofs.Common.{ap, sym}
use Rattle.zone_states.specs.Stored.{StoredZone, zone_stored}
use Rattle.zone_states.proofs.zone.Zone.append_refusal.Goals as goal

pub returns : goal.returns
returns c = c.append_refusal.ensures (zone_stored c.args.geometry.now.block c.args.self.now) (ap (λ (z : StoredZone). z.state) (sym c.self.view_is)) (sym c.blocks-2.ensures.value)
