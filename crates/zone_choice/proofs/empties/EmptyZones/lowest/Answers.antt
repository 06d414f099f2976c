use Rattle.std.proofs.Common.{arith}
use Rattle.zone_choice.proofs.EmptyLaws.{count-none_below}
use Rattle.zone_choice.proofs.empties.EmptyZones.lowest.Goals as goal

pub returns-clause-none : goal.returns-clause-none
returns-clause-none c =
    let none = rw (← c.self.view_is) at c.loop-zone.invariant in
    rw (← c.self.view_is) (count-none_below c.self.inside.marks.items c.loop-zone.zone (omega (arith, c.loop-zone-test.false, c.len-zone-end.ensures)) none)
