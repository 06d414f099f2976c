use Rattle.yardsticks.specs.Zones.{held_logs}
use Rattle.yardsticks.proofs.SpareLaws.{lowest_clears, lowest_fewer, nothing_clears}
use Rattle.yardsticks.proofs.spare.clear.Goals as goal

pub returns-in_default : goal.returns-in_default
returns-in_default c =
    let logs = held_logs c.loop-zone.logs.items in
    let none = rw (c.in_default.is) at c.in_ok-zone.ensures.none in
    c.loop-zone.invariant logs (nothing_clears c.args.block_bytes c.args.n logs (rw c.deref.ensures.value at none))

pub loop-zone-smaller : goal.loop-zone-smaller
loop-zone-smaller c =
    let lowest = rw (c.in-Some.is) at c.in_ok-zone.ensures.some in
    lowest_fewer c.args.block_bytes c.args.n (held_logs c.loop-zone.logs.items) _ c.in-Some.zone c.empty_zone.ensures (rw c.deref.ensures.value at lowest)

pub loop-zone-preserved : goal.loop-zone-preserved
loop-zone-preserved c = λ left is.
    let lowest = rw (c.in-Some.is) at c.in_ok-zone.ensures.some in
    c.loop-zone.invariant left (lowest_clears c.args.block_bytes c.args.n (held_logs c.loop-zone.logs.items) left c.in-Some.zone (rw c.deref.ensures.value at lowest) (rw c.empty_zone.ensures at is))
