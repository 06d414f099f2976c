use Rattle.std.proofs.Common.{◌≡◌, ◌<◌, ◌∙◌, ap, arith, get_or, length}
use Rattle.std.proofs.lemmas.List.{get_or_read}
use Rattle.live_index.proofs.OrderLaws.{is-least, none-least}
use Rattle.live_index.proofs.index.LiveIndex.least.Goals as goal

pub returns-in_default : goal.returns-in_default
returns-in_default c =
    none-least c.self.inside.counts.items c.self.inside.order.zones.items c.self.inside.order.positions.items c.args.among.now c.self.invariant.0 c.self.invariant.1 (rw (← c.self.view_is) at c.requires) c.in_default.ensures

pub returns : goal.returns
returns c =
    let counts = c.self.inside.counts.items in
    let zones = c.self.inside.order.zones.items in
    let first = c.in-Some.first in
    let zone_in : c.zone.result < length counts = omega (arith, c.self.invariant.0.below first 0 c.in-Some.ensures.within, c.zone.ensures) in
    let count : c.index-count.result.now ≡ get_or counts (get_or zones first 0) 0 = get_or_read counts c.zone.result c.index-count.result.now zone_in c.index-count.ensures 0 ∙ ap (λ z. get_or counts z 0) c.zone.ensures in
    let run = rw (c.deref.ensures.value, count) at c.first_above-end.ensures in
    rw (← c.self.view_is, c.zone-2.ensures)
    (is-least counts zones c.self.inside.order.positions.items c.args.among.now c.self.invariant.0 c.self.invariant.1 (rw (← c.self.view_is) at c.requires) first c.first_above-end.result c.lowest_named.result c.in-Some.ensures run c.lowest_named.ensures)
