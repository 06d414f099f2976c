use Rattle.std.proofs.Common.{◌≡◌}
use Rattle.batch_log.proofs.EntryLaws.{named_from}
use Rattle.batch_log.proofs.view.is_named.Given as goal

-- what the entries left say is what all do
abbrev pub invariant-loop-i : goal.invariant-loop-i
invariant-loop-i l = named_from l.block l.bytes l.count l.i ≡ named_from l.block l.bytes l.count l.first
