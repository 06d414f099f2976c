use Rattle.std.proofs.Common.{◌≡◌, ◌<◌, ◌≤◌, ℕ, false}
use Rattle.remount.specs.Mounting.{is_partly_at}
use Rattle.remount.proofs.tables.roles.partly_from.Given as goal

abbrev pub invariant-loop-zone : goal.invariant-loop-zone
invariant-loop-zone l = (k : ℕ) → l.from ≤ k → k < l.zone → is_partly_at l.reported k ≡ false
