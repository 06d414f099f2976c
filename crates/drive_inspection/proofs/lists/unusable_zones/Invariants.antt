use Rattle.std.proofs.Common.{◌≡◌, ◌++◌, drop}
use Rattle.drive_inspection.specs.Lists.{found_from, found_in, unusable_reported}
use Rattle.drive_inspection.proofs.lists.unusable_zones.Given as goal

abbrev pub invariant-loop-number : goal.invariant-loop-number
invariant-loop-number l = l.found.items ++ found_from unusable_reported l.number (drop l.number l.zones) ≡ found_in unusable_reported l.zones
