use Rattle.std.proofs.Common.{◌⊎◌, ◌<◌, ℕ}
use Rattle.drive_array.specs.Spare.{IsHalfClean, IsVacant}
use Rattle.yardsticks.specs.Zones.{held_logs}
use Rattle.yardsticks.proofs.spare.has_spare.Given as goal

abbrev pub invariant-loop-zone : goal.invariant-loop-zone
invariant-loop-zone l = (k : ℕ) → k < l.zone → (IsVacant (held_logs l.logs) k ⊎ IsHalfClean l.block_bytes l.n (held_logs l.logs) k) → ⊥
