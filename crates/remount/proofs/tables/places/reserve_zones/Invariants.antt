use Rattle.std.proofs.Common.{◌≡◌}
use Rattle.remount.proofs.tables.places.reserve_zones.Given as goal

abbrev pub invariant-loop-zone : goal.invariant-loop-zone
invariant-loop-zone l = l.tables ≡ l.fn.tables
