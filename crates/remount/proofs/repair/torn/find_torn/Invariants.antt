use Rattle.std.proofs.Common.{ℕ, ◌≡◌, ◌≤◌, ◌<◌, false}
use Rattle.remount.specs.Torn.{is_torn_in}
use Rattle.remount.proofs.repair.torn.find_torn.Given as goal

abbrev pub invariant-loop-zone : goal.invariant-loop-zone
invariant-loop-zone l = (other : ℕ) → l.from ≤ other → other < l.zone → is_torn_in l.scanned other ≡ false
