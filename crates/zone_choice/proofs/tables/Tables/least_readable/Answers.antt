use Rattle.std.proofs.Common.{◌≡◌}
use Rattle.zone_choice.proofs.LeastLaws.{lesser-finds}
use Rattle.zone_choice.proofs.tables.Tables.least_readable.Goals as goal

pub loop-zone-preserved : goal.loop-zone-preserved
loop-zone-preserved c = rw c.lesser-least.ensures (lesser-finds c.args.self.now c.loop-zone.zone c.loop-zone.least c.loop-zone.invariant)
