use Rattle.std.proofs.Common.{◌≡◌, ◌≤◌, ◌+◌}
use Rattle.batch_log.specs.Reading.{entries_in}
use Rattle.batch_log.specs.Log.{data_count}
use Rattle.batch_log.proofs.EntryLaws.{data_from}
use Rattle.batch_log.proofs.view.data_count.Given as goal

-- those counted and those of the entries left are all
abbrev pub invariant-loop-i : goal.invariant-loop-i
invariant-loop-i l = record {
  counted : l.blocks + data_from l.bytes l.count l.i ≡ data_count (entries_in l.count l.bytes);
  few : l.blocks ≤ l.i;
}
