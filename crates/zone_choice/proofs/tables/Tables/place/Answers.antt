use Rattle.std.proofs.lemmas.List.{length-set}
use Rattle.zone_choice.proofs.LiveLaws.{can_lower, can_raise, live-placed}
use Rattle.zone_choice.proofs.tables.Tables.place.Goals as goal

pub lower-requires : goal.lower-requires
lower-requires c = rw c.set-moved.ensures.from (can_lower c.self.inside.map c.self.inside.index c.args.block c.self.invariant.1 (rw (← c.self.view_is) at c.requires.in_range))

pub raise-requires : goal.raise-requires
raise-requires c =
    let in_range = rw (← c.self.view_is) at c.requires.in_range in
    let few = rw (← c.self.view_is) at c.requires.few in
    rw (c.set-moved.ensures.to, c.lower.ensures, c.set-moved.ensures.from)
    (can_raise c.self.inside.map c.self.inside.index c.args.block c.args.place c.self.invariant.1 in_range few)

pub invariant_of-self : goal.invariant_of-self
invariant_of-self c =
    let in_range = rw (← c.self.view_is) at c.requires.in_range in
    rw (c.raise.ensures, c.set-moved.ensures.to, c.lower.ensures, c.set-moved.ensures.from, c.set-moved.ensures.set) (
      c.self.invariant.0,
      live-placed c.self.inside.map c.self.inside.index c.args.block c.args.place c.self.invariant.1 in_range,
      rw (length-set c.self.inside.map.places c.args.block c.args.place) c.self.invariant.2,
    )
