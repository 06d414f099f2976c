use Rattle.std.proofs.Common.{◌+◌, refl}
use Rattle.zone_drive.specs.Table.{sent_stored}
use Rattle.zone_drive.proofs.SendLaws.{map-step}
use Rattle.zone_drive.proofs.memory_zones.apply_to_each.Goals as goal

pub loop-zone-preserved : goal.loop-zone-preserved
loop-zone-preserved c =
    let i = c.loop-zone.zone-index in
    let step = map-step (sent_stored c.args.action) c.args.zones.now i (i + 1) c.zone-item.result c.loop-zone-test.true refl in
    rw (c.apply_if_selected.ensures, c.loop-zone.invariant) step
