use Rattle.std.proofs.Common.{arith}
use Rattle.std.proofs.lemmas.List.{get_or_read}
use Rattle.live_index.proofs.OrderLaws.{below-end, put-add}
use Rattle.live_index.proofs.index.LiveIndex.add.Goals as goal

pub overflow_sub-last : goal.overflow_sub-last
overflow_sub-last c =
    let counts = c.self.inside.counts.items in
    let order = c.self.inside.order in
    let zone_in = rw (← c.self.view_is) at c.requires.in_range in
    let first = rw (c.deref.ensures.value, get_or_read counts c.args.zone c.index-count.result.now zone_in c.index-count.ensures 0) at c.first_above_near-last.ensures in
    omega (arith, below-end counts order.zones.items order.positions.items c.self.invariant.0 c.self.invariant.1 c.args.zone zone_in c.first_above_near-last.result first)

pub invariant_of-self : goal.invariant_of-self
invariant_of-self c =
    let counts = c.self.inside.counts.items in
    let order = c.self.inside.order in
    let zone_in = rw (← c.self.view_is) at c.requires.in_range in
    let first = rw (c.deref.ensures.value, get_or_read counts c.args.zone c.index-count.result.now zone_in c.index-count.ensures 0) at c.first_above_near-last.ensures in
    rw (c.put.ensures.zones, c.put.ensures.positions, get_or_read counts c.args.zone c.index_mut.result.now zone_in c.index_mut.ensures.value 0)
    (put-add counts order.zones.items order.positions.items c.self.invariant.0 c.self.invariant.1 c.args.zone zone_in c.first_above_near-last.result first)
