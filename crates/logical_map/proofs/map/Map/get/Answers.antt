use Rattle.std.proofs.Common.{sym, ◌∙◌, arith}
use Rattle.logical_map.specs.Pages.{page_of}
use Rattle.logical_map.proofs.Showing.{shown-at, length-shown, placed-ready}
use Rattle.logical_map.proofs.map.Map.get.Goals as goal

pub returns-clause-place : goal.returns-clause-place
returns-clause-place c =
    let page = page_of c.self.inside.pages.items in
    let below = rw (← c.self.view_is) at c.requires in
    rw (← c.self.view_is) (c.place_at.ensures ∙ sym (shown-at page c.self.inside.count c.args.block (omega (arith, below, length-shown page c.self.inside.count))))

pub returns-clause-ready : goal.returns-clause-ready
returns-clause-ready c =
    let page = page_of c.self.inside.pages.items in
    let below = rw (← c.self.view_is) at c.requires in
    rw (← c.self.view_is) (λ placed. placed-ready page c.self.inside.count c.args.block (omega (arith, below, length-shown page c.self.inside.count)) (λ none. placed (c.place_at.ensures ∙ none)))
