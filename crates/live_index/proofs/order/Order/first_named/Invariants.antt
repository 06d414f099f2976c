use Rattle.live_index.specs.Ordered.{NoneNamedBefore}
use Rattle.live_index.proofs.order.Order.first_named.Given as goal

abbrev pub invariant-loop-position : goal.invariant-loop-position
invariant-loop-position l = NoneNamedBefore l.self.zones.items l.among l.position
