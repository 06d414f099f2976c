use Rattle.std.proofs.Common.{◌≡◌, map}
use Rattle.std.specs.List.{count_by}
use Rattle.zone_drive.specs.Groups.{is_implicit}
use Rattle.zone_drive.specs.Table.{closed_stored}
use Rattle.zone_drive.proofs.memory_zones.MemoryZonesHeldZones.close_implicit.Given as goal

abbrev pub invariant-loop-low : goal.invariant-loop-low
invariant-loop-low l = (map closed_stored l.self.zones ≡ map closed_stored l.fn.self.zones) × (l.self.shape ≡ l.fn.self.shape)

abbrev pub decreases-loop-low : goal.decreases-loop-low
decreases-loop-low l = count_by is_implicit l.self.zones
