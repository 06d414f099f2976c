use Rattle.std.proofs.Common.{arith}
use Rattle.zone_choice.proofs.EmptyLaws.{count-fits, counted-give}
use Rattle.zone_choice.proofs.empties.EmptyZones.give_back.Goals as goal

pub overflow_add-self : goal.overflow_add-self
overflow_add-self c =
    omega (arith, count-fits c.self.inside.marks.items c.self.inside.count c.self.inside.lowest c.args.zone c.self.invariant (rw (← c.self.view_is) at c.requires.in_range) (rw (← c.self.view_is) at c.requires.not_empty))

pub invariant_of-self : goal.invariant_of-self
invariant_of-self c =
    rw c.min-self-inside.ensures
    (counted-give c.self.inside.marks.items c.self.inside.count c.self.inside.lowest c.args.zone c.self.invariant (rw (← c.self.view_is) at c.requires.in_range) (rw (← c.self.view_is) at c.requires.not_empty))
