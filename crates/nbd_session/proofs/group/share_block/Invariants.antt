use Rattle.std.proofs.Common.{take}
use Rattle.std.specs.List.{AllByRecursion}
use Rattle.nbd_session.specs.Groups.{LiesApart}
use Rattle.nbd_session.proofs.group.share_block.Given as goal

abbrev pub invariant-loop-entry : goal.invariant-loop-entry
invariant-loop-entry l = AllByRecursion (LiesApart l.span) (take l.entry-index l.fn.entries)
