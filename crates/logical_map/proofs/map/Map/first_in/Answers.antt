use Rattle.std.proofs.Common.{refl, sym, ◌∙◌, ap, set, ◌<◌, length, arith}
use Rattle.std.proofs.lemmas.List.{get_or_read, length-set}
use Rattle.logical_map.specs.Lists.{ListView, missing}
use Rattle.logical_map.specs.Pages.{page_of}
use Rattle.logical_map.proofs.Listing.{listed-at, listed-finds, listed-sort, none-is, none-lies, walked, whole-there}
use Rattle.logical_map.proofs.map.Map.first_in.Goals as goal

pub returns-then-live-eq0-clause-first : goal.returns-then-live-eq0-clause-first
returns-then-live-eq0-clause-first c =
    let page = page_of c.self.inside.pages.items in
    let none = sym c.if-live-eq0.true ∙ (rw (← c.self.view_is) at (c.live.ensures c.requires)) in
    rw (← c.self.view_is) (sym (none-is page c.self.inside.count c.self.inside.zone_size c.args.zone c.args.from c.self.invariant.0.past (λ k above below. none-lies page c.self.inside.count c.self.inside.zone_size c.args.zone c.self.invariant.0.past none k)))

pub returns-then-not-is_whole-clause-first : goal.returns-then-not-is_whole-clause-first
returns-then-not-is_whole-clause-first c =
    rw (← c.self.view_is) (walked (page_of c.self.inside.pages.items) c.self.inside.count c.self.inside.zone_size c.args.zone c.args.from c.first_placed.result c.self.invariant.0.past (rw c.of-words.ensures at c.first_placed.ensures))

pub invariant_of-self : goal.invariant_of-self
invariant_of-self c =
    let page = page_of c.self.inside.pages.items in
    let lists = c.self.inside.lists.items in
    let whole = sym (rw c.deref.ensures.value at c.if-not-is_whole.ensures) in
    let below = whole-there lists c.args.zone whole in
    let here = get_or_read lists c.args.zone c.index_mut.result.now below c.index_mut.ensures.value missing in
    (c.self.invariant.0, listed-sort page c.self.inside.zone_size c.args.zone lists c.position_from-first.new.self below (c.position_from-first.ensures.whole ∙ ap (λ (l : ListView). l.whole) here) (λ block lies had. (rw here at c.position_from-first.ensures.kept) block had) c.self.invariant.1)

pub returns-in_err-position-clause-first : goal.returns-in_err-position-clause-first
returns-in_err-position-clause-first c =
    let page = page_of c.self.inside.pages.items in
    let lists = c.self.inside.lists.items in
    let whole = sym (rw c.deref.ensures.value at c.if-not-is_whole.ensures) in
    let below = whole-there lists c.args.zone whole in
    let here = get_or_read lists c.args.zone c.index_mut.result.now below c.index_mut.ensures.value missing in
    let within : c.args.zone < length (set lists c.args.zone c.position_from-first.new.self) = omega (arith, below, length-set lists c.args.zone c.position_from-first.new.self) in
    let list = get_or_read (set lists c.args.zone c.position_from-first.new.self) c.args.zone c.index.result.now within c.index.ensures missing ∙ listed-at lists c.args.zone c.args.zone c.position_from-first.new.self below refl in
    let blocks = c.blocks-blocks.ensures ∙ ap (λ (l : ListView). l.blocks) list in
    let finds = listed-finds page c.self.inside.count c.self.inside.zone_size c.args.zone c.args.from lists c.position_from-first.new.self c.position_from-first.result c.first_listed.result c.self.invariant.0.past whole c.self.invariant.1 (λ block lies had. (rw here at c.position_from-first.ensures.kept) block had) c.position_from-first.ensures.ascends c.position_from-first.ensures.first (rw (blocks, c.of-words.ensures) at c.first_listed.ensures) in
    rw (← c.self.view_is) (c.from_residual.ensures ∙ (rw c.in_err-position.was at finds))

pub invariant_of-self-2 : goal.invariant_of-self-2
invariant_of-self-2 c =
    let page = page_of c.self.inside.pages.items in
    let lists = c.self.inside.lists.items in
    let whole = sym (rw c.deref.ensures.value at c.if-not-is_whole.ensures) in
    let below = whole-there lists c.args.zone whole in
    let here = get_or_read lists c.args.zone c.index_mut.result.now below c.index_mut.ensures.value missing in
    (c.self.invariant.0, listed-sort page c.self.inside.zone_size c.args.zone lists c.position_from-first.new.self below (c.position_from-first.ensures.whole ∙ ap (λ (l : ListView). l.whole) here) (λ block lies had. (rw here at c.position_from-first.ensures.kept) block had) c.self.invariant.1)

pub returns-clause-first : goal.returns-clause-first
returns-clause-first c =
    let page = page_of c.self.inside.pages.items in
    let lists = c.self.inside.lists.items in
    let whole = sym (rw c.deref.ensures.value at c.if-not-is_whole.ensures) in
    let below = whole-there lists c.args.zone whole in
    let here = get_or_read lists c.args.zone c.index_mut.result.now below c.index_mut.ensures.value missing in
    let within : c.args.zone < length (set lists c.args.zone c.position_from-first.new.self) = omega (arith, below, length-set lists c.args.zone c.position_from-first.new.self) in
    let list = get_or_read (set lists c.args.zone c.position_from-first.new.self) c.args.zone c.index.result.now within c.index.ensures missing ∙ listed-at lists c.args.zone c.args.zone c.position_from-first.new.self below refl in
    let blocks = c.blocks-blocks.ensures ∙ ap (λ (l : ListView). l.blocks) list in
    let finds = listed-finds page c.self.inside.count c.self.inside.zone_size c.args.zone c.args.from lists c.position_from-first.new.self c.position_from-first.result c.first_listed.result c.self.invariant.0.past whole c.self.invariant.1 (λ block lies had. (rw here at c.position_from-first.ensures.kept) block had) c.position_from-first.ensures.ascends c.position_from-first.ensures.first (rw (blocks, c.of-words.ensures) at c.first_listed.ensures) in
    rw (← c.self.view_is, blocks) (rw c.in_ok-position.was at finds)
