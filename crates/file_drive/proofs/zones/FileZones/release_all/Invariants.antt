use Rattle.std.proofs.Common.{◌≡◌}
use Rattle.file_drive.specs.InFile.{filed}
use Rattle.file_drive.proofs.zones.FileZones.release_all.Given as goal

abbrev pub invariant-loop-index : goal.invariant-loop-index
invariant-loop-index g l =
    (l.self.shape ≡ l.fn.self.shape) × (filed g.F.FileBytes.seen l.self ≡ filed g.F.FileBytes.seen l.fn.self)
    × (l.self.durable ≡ l.fn.self.durable)
