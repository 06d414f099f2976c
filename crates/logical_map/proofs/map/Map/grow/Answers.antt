use Rattle.std.proofs.Common.{arith}
use Rattle.logical_map.specs.Pages.{page_of}
use Rattle.logical_map.proofs.Counting.{kept-grow}
use Rattle.logical_map.proofs.Showing.{grows, length-shown}
use Rattle.logical_map.proofs.map.Map.grow.Goals as goal

pub invariant_of-self : goal.invariant_of-self
invariant_of-self c =
    let page = page_of c.self.inside.pages.items in
    let more = rw (← c.self.view_is) at c.requires in
    (kept-grow page c.self.inside.count c.args.count c.self.inside.zones c.self.inside.zone_size c.self.inside.counts.items c.self.invariant.0 (omega (arith, more, length-shown page c.self.inside.count)), c.self.invariant.1)

pub returns : goal.returns
returns c =
    let page = page_of c.self.inside.pages.items in
    let more = rw (← c.self.view_is) at c.requires in
    rw (← c.self.view_is) (grows page c.self.inside.count c.args.count c.self.inside.zones c.self.inside.zone_size c.self.invariant.0.past (omega (arith, more, length-shown page c.self.inside.count)))
