use Rattle.std.proofs.Common.{ℕ, Some, sym, ◌∙◌, ap, get_or}
use Rattle.std.specs.Option.{option_map}
use Rattle.logical_map.specs.declared.place.Place.{Place}
use Rattle.logical_map.specs.declared.place.Place.TheVariants as places
use Rattle.logical_map.specs.Pages.{page_of}
use Rattle.logical_map.specs.Places.{MapView}
use Rattle.logical_map.proofs.Listing.{all-at}
use Rattle.logical_map.proofs.map.Map.first_record.Goals as goal

pub returns-clause-first : goal.returns-clause-first
returns-clause-first c =
    let page = page_of c.self.inside.pages.items in
    let block = c.in_ok-block.block in
    let same = ap (λ (m : MapView). get_or m.places block places.None) (c.self.view_is ∙ c.in_ok-block.ensures.kept) in
    let place = c.place_at.ensures ∙ sym (all-at page c.self.inside.count block c.self.invariant.0.past) ∙ same in
    ap (λ (p : Place). Some (block, p)) place ∙ ap (option_map (λ (b : ℕ). (b, get_or c.args.self.now.places b places.None))) c.in_ok-block.ensures.first
