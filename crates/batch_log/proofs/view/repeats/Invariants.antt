use Rattle.std.proofs.Common.{◌≡◌}
use Rattle.batch_log.specs.Reading.{entries_in}
use Rattle.batch_log.specs.Causes.{entry_blocks, repeats}
use Rattle.batch_log.proofs.EntryLaws.{repeats_from}
use Rattle.batch_log.proofs.view.repeats.Given as goal

-- what the entries left say is what all do
abbrev pub invariant-loop-i : goal.invariant-loop-i
invariant-loop-i l = repeats_from l.bytes l.count l.i ≡ repeats (entry_blocks (entries_in l.count l.bytes))
