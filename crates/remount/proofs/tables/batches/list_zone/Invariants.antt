use Rattle.remount.proofs.ListingLaws.{ListsSoFar}
use Rattle.remount.proofs.tables.batches.list_zone.Given as goal

abbrev pub invariant-loop-head : goal.invariant-loop-head
invariant-loop-head l = ListsSoFar l.zone l.heads l.fn.batches.items l.batches.items l.before l.head-index
