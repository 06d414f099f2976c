use Rattle.std.proofs.Common.{◌≡◌, ◌-◌, ◌≤◌, take}
use Rattle.batch_log.specs.Log.{data_count}
use Rattle.zone_translator.proofs.list.listed_count.Given as goal

abbrev pub invariant-loop-taken : goal.invariant-loop-taken
invariant-loop-taken l = (l.taken.entries ≤ l.most) × (l.taken.blocks ≡ data_count (take l.taken.entries l.fn.entries)) × (l.taken.blocks ≤ l.room)

abbrev pub decreases-loop-taken : goal.decreases-loop-taken
decreases-loop-taken l = l.most - l.taken.entries
