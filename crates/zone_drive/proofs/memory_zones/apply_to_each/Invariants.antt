use Rattle.std.proofs.Common.{◌≡◌, ◌++◌, map, take, drop}
use Rattle.zone_drive.specs.Table.{sent_stored}
use Rattle.zone_drive.proofs.memory_zones.apply_to_each.Given as goal

abbrev pub invariant-loop-zone : goal.invariant-loop-zone
invariant-loop-zone l = l.zones ≡ map (sent_stored l.action) (take l.zone-index l.fn.zones) ++ drop l.zone-index l.fn.zones
