use Rattle.std.proofs.Common.{◌≡◌, ◌++◌, drop, map, not}
use Rattle.zone_choice.proofs.roles.Roles.mounted.Given as goal

abbrev pub invariant-loop-mark : goal.invariant-loop-mark
invariant-loop-mark l = l.sealed.items ++ map not (drop l.mark-index l.mark-items) ≡ map not l.mark-items
