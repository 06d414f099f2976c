use Rattle.std.proofs.Common.{◌≡◌}
use Rattle.batch_log.specs.Reading.{entries_in}
use Rattle.batch_log.specs.Causes.{entry_blocks}
use Rattle.batch_log.proofs.EntryLaws.{ascends, ascends_from}
use Rattle.batch_log.proofs.view.ascend.Given as goal

-- the entries left ascend from here exactly where all do
abbrev pub invariant-loop-i : goal.invariant-loop-i
invariant-loop-i l = ascends_from l.bytes l.count l.least l.i ≡ ascends 0 (entry_blocks (entries_in l.count l.bytes))
