use Rattle.zone_choice.proofs.EmptyLaws.{counted-take}
use Rattle.zone_choice.proofs.empties.EmptyZones.take_lowest.Goals as goal

pub invariant_of-self : goal.invariant_of-self
invariant_of-self c =
    counted-take c.self.inside.marks.items c.self.inside.count c.self.inside.lowest c.in-Some.zone c.self.invariant (rw (← c.self.view_is) at c.in-Some.ensures.some)
