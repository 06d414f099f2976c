use Rattle.std.proofs.Common.{◌≡◌, ◌-◌, ◌*◌, ◌++◌, drop}
use Rattle.batch_log.specs.Reading.{entries_in}
use Rattle.yardsticks.proofs.batches.entries_at.Given as goal

abbrev pub invariant-loop-i : goal.invariant-loop-i
invariant-loop-i l = l.entries.items ++ entries_in (l.count - l.i) (drop (8 * l.i) l.bytes) ≡ entries_in l.count l.bytes
