use Rattle.std.proofs.Common.{◌-◌}
use Rattle.disk_calls.proofs.ExtentLaws.{ToldTo}
use Rattle.disk_calls.proofs.extents.tell_all.Given as goal

abbrev pub invariant-loop-at : goal.invariant-loop-at
invariant-loop-at g l = ToldTo l.disk l.first l.end l.at (g.H.Host.talk l.fn.host) (g.H.Host.talk l.host)

abbrev pub decreases-loop-at : goal.decreases-loop-at
decreases-loop-at g l = l.end - l.at
