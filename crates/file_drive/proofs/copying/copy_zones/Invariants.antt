use Rattle.std.proofs.Common.{◌≡◌, take}
use Rattle.file_drive.proofs.copying.copy_zones.Given as goal

abbrev pub invariant-loop-index : goal.invariant-loop-index
invariant-loop-index g l =
    (l.zones.items ≡ take l.index (g.Z.HeldZones.stored l.fn.held)) × (g.Z.HeldZones.stored l.held ≡ g.Z.HeldZones.stored l.fn.held)
