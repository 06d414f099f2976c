use Rattle.std.proofs.Common.{◌≡◌, map}
use Rattle.std.specs.List.{count_by}
use Rattle.zone_drive.specs.Groups.{is_implicit}
use Rattle.zone_drive.specs.Table.{closed_stored}
use Rattle.file_drive.specs.InFile.{filed}
use Rattle.file_drive.proofs.held_zones.FileZonesHeldZones.close_implicit.Given as goal

abbrev pub invariant-loop-low : goal.invariant-loop-low
invariant-loop-low g l =
    (map closed_stored (filed g.F.FileBytes.seen l.self) ≡ map closed_stored (filed g.F.FileBytes.seen l.fn.self)) × (l.self.shape ≡ l.fn.self.shape)
    × (l.self.durable ≡ l.fn.self.durable)

abbrev pub decreases-loop-low : goal.decreases-loop-low
decreases-loop-low g l = count_by is_implicit (filed g.F.FileBytes.seen l.self)
