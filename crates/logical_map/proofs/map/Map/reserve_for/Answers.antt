use Rattle.std.proofs.Common.{◌∙◌, sym, ap, arith, ℕ, ◌-◌, ◌/◌, ◌++◌, replicate, take}
use Rattle.logical_map.specs.Pages.{page_of}
use Rattle.logical_map.proofs.Counting.{kept-reserve, kept-widen}
use Rattle.logical_map.proofs.Listing.{listed-reserve}
use Rattle.logical_map.proofs.Showing.{reserves_there, reserves_fresh, length-shown, missing-from}
use Rattle.logical_map.proofs.map.Map.reserve_for.Goals as goal

pub returns-then-has_page-clause-ok : goal.returns-then-has_page-clause-ok
returns-then-has_page-clause-ok c =
    let page = page_of c.self.inside.pages.items in
    let below = rw (← c.self.view_is) at c.requires in
    rw (← c.self.view_is) (reserves_there page c.self.inside.count c.self.inside.zones c.self.inside.zone_size c.args.block (omega (arith, below, length-shown page c.self.inside.count)) (sym c.if-has_page.ensures))

pub returns-clause-ok : goal.returns-clause-ok
returns-clause-ok c =
    let page = page_of c.self.inside.pages.items in
    let below = rw (← c.self.view_is) at c.requires in
    let k = c.in_ok-make_page.ensures.ok in
    rw (← c.self.view_is) (reserves_fresh page (page_of c.make_page.new.pages.items) c.self.inside.count c.self.inside.zones c.self.inside.zone_size c.args.block (omega (arith, below, length-shown page c.self.inside.count)) (missing-from _ c.if-has_page.ensures) k.made k.others)

pub invariant_of-self-2 : goal.invariant_of-self-2
invariant_of-self-2 c =
    let page = page_of c.self.inside.pages.items in
    let page' = page_of c.make_page.new.pages.items in
    let wide = c.in_ok-resize.ensures.items ∙ ap (λ (k : ℕ). take c.self.inside.zones c.self.inside.counts.items ++ replicate (c.self.inside.zones - k) 0) c.self.inside.counts.ok.0 in
    let none = missing-from _ c.if-has_page.ensures in
    let k = c.in_ok-make_page.ensures.ok in
    (kept-reserve page page' c.self.inside.count c.self.inside.zones c.self.inside.zone_size (c.args.block / 256) c.self.inside.counts.items c.resize.new.self.items c.self.invariant.0 wide none k.made k.others, listed-reserve page page' c.self.inside.zone_size (c.args.block / 256) c.self.inside.lists.items none k.made k.others c.self.invariant.1)

pub invariant_of-self-in_err-make_page : goal.invariant_of-self-in_err-make_page
invariant_of-self-in_err-make_page c =
    let wide = c.in_ok-resize.ensures.items ∙ ap (λ (k : ℕ). take c.self.inside.zones c.self.inside.counts.items ++ replicate (c.self.inside.zones - k) 0) c.self.inside.counts.ok.0 in
    rw c.in_err-make_page.ensures.err (kept-widen (page_of c.self.inside.pages.items) c.self.inside.count c.self.inside.zones c.self.inside.zone_size c.self.inside.counts.items c.resize.new.self.items c.self.invariant.0 wide, c.self.invariant.1)
