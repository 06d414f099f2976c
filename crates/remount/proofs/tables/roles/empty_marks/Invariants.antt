use Rattle.std.proofs.Common.{◌≡◌}
use Rattle.remount.specs.Mounting.{empties}
use Rattle.remount.proofs.tables.roles.empty_marks.Given as goal

abbrev pub invariant-loop-zone : goal.invariant-loop-zone
invariant-loop-zone l = l.marks.items ≡ empties l.reported l.zone
