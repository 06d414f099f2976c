use Rattle.std.proofs.Common.{sym, ◌∙◌, ◌<◌, length, arith}
use Rattle.std.proofs.lemmas.Bool.{eqb-true}
use Rattle.std.proofs.lemmas.List.{get_or_read}
use Rattle.logical_map.specs.Lists.{missing}
use Rattle.logical_map.specs.Pages.{page_of}
use Rattle.logical_map.proofs.Showing.{shown-ready}
use Rattle.logical_map.proofs.Listing.{listed-made, listed-room, none-lies}
use Rattle.logical_map.proofs.map.Map.reserve_in.Goals as goal

pub invariant_of-self-2 : goal.invariant_of-self-2
invariant_of-self-2 c =
    let page = page_of c.self.inside.pages.items in
    let lists = c.make_lists.new.lists.items in
    let below : c.args.zone < length lists = omega (arith, c.in_ok-make_lists.ensures.ok) in
    let here = get_or_read lists c.args.zone c.index_mut.result.now below c.index_mut.ensures.value missing in
    let inside : c.args.zone < c.args.self.now.zones = rw (← c.self.view_is) (omega (arith, c.if-zone-self.false)) in
    let live = rw (← c.self.view_is) at (c.live-empty.ensures inside) in
    let room = rw here at c.make_room.ensures in
    (c.self.invariant.0, listed-room page c.self.inside.zone_size c.args.zone lists _ c.make_room.new.self below (λ empty. none-lies page c.self.inside.count c.self.inside.zone_size c.args.zone c.self.invariant.0.past (sym (eqb-true _ _ empty) ∙ live)) room (listed-made page c.self.inside.zone_size c.self.inside.lists.items lists c.make_lists.ensures.kept c.self.invariant.1))

pub returns-then-zone-self-clause-ready : goal.returns-then-zone-self-clause-ready
returns-then-zone-self-clause-ready c = rw (← c.self.view_is) (shown-ready (page_of c.self.inside.pages.items) c.self.inside.count)

pub returns-in_err-make_lists-clause-ready : goal.returns-in_err-make_lists-clause-ready
returns-in_err-make_lists-clause-ready c = rw (← c.self.view_is) (shown-ready (page_of c.self.inside.pages.items) c.self.inside.count)

pub returns-clause-ready : goal.returns-clause-ready
returns-clause-ready c = rw (← c.self.view_is) (shown-ready (page_of c.self.inside.pages.items) c.self.inside.count)
