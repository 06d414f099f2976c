use Rattle.std.proofs.Common.{◌-◌}
use Rattle.live_index.proofs.OrderLaws.{Halving}
use Rattle.live_index.proofs.order.Order.first_above.Given as goal

abbrev pub invariant-loop-low : goal.invariant-loop-low
invariant-loop-low l = Halving l.counts l.self.zones.items l.count l.low l.high

abbrev pub decreases-loop-low : goal.decreases-loop-low
decreases-loop-low l = l.high - l.low
