use Rattle.live_index.specs.Ordered.{IsLowestNamed}
use Rattle.live_index.proofs.order.Order.lowest_named.Given as goal

abbrev pub invariant-loop-position : goal.invariant-loop-position
invariant-loop-position l = IsLowestNamed l.self.zones.items l.among l.first l.position l.lowest
