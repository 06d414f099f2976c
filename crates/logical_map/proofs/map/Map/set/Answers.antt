use Rattle.std.proofs.Common.{refl, sym, ◌∙◌, ap, arith, rules, is_some}
use Rattle.std.proofs.lemmas.Bool.{false≢true}
use Rattle.logical_map.specs.Pages.{page_of}
use Rattle.logical_map.proofs.Counting.{kept-raise, kept-set}
use Rattle.logical_map.proofs.Listing.{listed-set, listed-shorter}
use Rattle.logical_map.proofs.Showing.{sets, shown-some, length-shown, ready-at}
use Rattle.logical_map.proofs.map.Map.set.Goals as goal

pub returns-clause-set : goal.returns-clause-set
returns-clause-set c =
    let page = page_of c.self.inside.pages.items in
    let page' = page_of c.change.new.pages.items in
    let k = c.in-Some.ensures in
    let below = rw (← c.self.view_is) at c.requires.in_range in
    rw (← c.self.view_is) (sets page page' c.self.inside.count c.self.inside.zones c.self.inside.zone_size c.args.block k.page c.args.place (omega (arith, below, length-shown page c.self.inside.count)) k.long k.found k.set k.others)

pub returns-clause-from : goal.returns-clause-from
returns-clause-from c =
    let page = page_of c.self.inside.pages.items in
    let k = c.in-Some.ensures in
    let below = rw (← c.self.view_is) at c.requires.in_range in
    let was = k.was_is ∙ shown-some page c.self.inside.count c.args.block k.page (omega (arith, below, length-shown page c.self.inside.count)) k.found in
    rw (← c.self.view_is) (c.zone_below.ensures ∙ rw (c.zone_of-was.ensures, was) refl)

pub unreachable-requires : goal.unreachable-requires
unreachable-requires c =
    let page = page_of c.self.inside.pages.items in
    let below = rw (← c.self.view_is) at c.requires.in_range in
    let ready = rw (← c.self.view_is) at c.requires.ready in
    absurd (false≢true (ap is_some (sym c.in_default.ensures) ∙ sym (ready-at page c.self.inside.count c.args.block (omega (arith, below, length-shown page c.self.inside.count))) ∙ ready))

pub raise-requires : goal.raise-requires
raise-requires c =
    let page = page_of c.self.inside.pages.items in
    let k = c.in-Some.ensures in
    let long = length-shown page c.self.inside.count in
    let below = rw (← c.self.view_is) at c.requires.in_range in
    let was = k.was_is ∙ shown-some page c.self.inside.count c.args.block k.page (omega (arith, below, long)) k.found in
    rw (c.zone_of-zone.ensures, c.lower.ensures, c.zone_of-was.ensures, was) (kept-raise page c.self.inside.count c.self.inside.zones c.self.inside.zone_size c.args.block c.self.inside.counts.items c.args.place c.self.invariant.0 (omega (arith, below, long)) (search rules))

pub invariant_of-self : goal.invariant_of-self
invariant_of-self c =
    let page = page_of c.self.inside.pages.items in
    let page' = page_of c.change.new.pages.items in
    let k = c.in-Some.ensures in
    let long = length-shown page c.self.inside.count in
    let below = rw (← c.self.view_is) at c.requires.in_range in
    let was = k.was_is ∙ shown-some page c.self.inside.count c.args.block k.page (omega (arith, below, long)) k.found in
    let follows = rw (c.zone_of-zone.ensures, c.zone_of-was.ensures, was) at c.note.ensures in
    rw (c.raise.ensures, c.zone_of-zone.ensures, c.lower.ensures, c.zone_of-was.ensures, was) (
      kept-set page page' c.self.inside.count c.self.inside.zones c.self.inside.zone_size c.args.block c.self.inside.counts.items k.page c.args.place c.self.invariant.0 (omega (arith, below, long)) k.long k.found k.set k.others,
      listed-shorter page' c.self.inside.zone_size c.note.new.lists.items c.shorten.new.lists.items c.shorten.ensures
          (listed-set page page' c.self.inside.count c.self.inside.zone_size c.args.block k.page c.args.place c.self.inside.lists.items c.note.new.lists.items
          (omega (arith, below, long)) k.long k.found k.set k.others c.self.invariant.1 follows),
    )
