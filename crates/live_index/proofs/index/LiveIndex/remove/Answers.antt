use Rattle.std.proofs.lemmas.List.{get_or_read}
use Rattle.live_index.proofs.OrderLaws.{put-remove, start-in}
use Rattle.live_index.proofs.index.LiveIndex.remove.Goals as goal

pub put-requires-clause-position : goal.put-requires-clause-position
put-requires-clause-position c =
    let counts = c.self.inside.counts.items in
    let order = c.self.inside.order in
    let zone_in = rw (← c.self.view_is) at c.requires.in_range in
    let positive = rw (← c.self.view_is) at c.requires.above in
    let first = rw (c.deref.ensures.value, get_or_read counts c.args.zone c.index-count.result.now zone_in c.index-count.ensures 0) at c.first_above_near-first.ensures in
    start-in counts order.zones.items order.positions.items c.self.invariant.0 c.self.invariant.1 c.args.zone zone_in c.first_above_near-first.result positive first

pub invariant_of-self : goal.invariant_of-self
invariant_of-self c =
    let counts = c.self.inside.counts.items in
    let order = c.self.inside.order in
    let zone_in = rw (← c.self.view_is) at c.requires.in_range in
    let positive = rw (← c.self.view_is) at c.requires.above in
    let first = rw (c.deref.ensures.value, get_or_read counts c.args.zone c.index-count.result.now zone_in c.index-count.ensures 0) at c.first_above_near-first.ensures in
    rw (c.put.ensures.zones, c.put.ensures.positions, get_or_read counts c.args.zone c.index_mut.result.now zone_in c.index_mut.ensures.value 0)
    (put-remove counts order.zones.items order.positions.items c.self.invariant.0 c.self.invariant.1 c.args.zone zone_in c.first_above_near-first.result positive first)
