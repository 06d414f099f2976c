use Rattle.std.proofs.Common.{◌≡◌, ◌<◌, ℕ, false, get_or}
use Rattle.zone_choice.proofs.empties.EmptyZones.lowest.Given as goal

abbrev pub invariant-loop-zone : goal.invariant-loop-zone
invariant-loop-zone l = (k : ℕ) → k < l.zone → get_or l.self k false ≡ false
