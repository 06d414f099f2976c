use Rattle.std.proofs.Common.{rules}
use Rattle.std.proofs.lemmas.Fn.{filter_same}
use Rattle.std.proofs.lemmas.List.Filters.{dedup_is}
use Rattle.std.proofs.lemmas.List.Kept.{Contains-dedup_nat}
use Rattle.std.proofs.lemmas.List.Sorted.{Contains-permutation}
use Rattle.logical_map.specs.Live.{lies_in}
use Rattle.logical_map.specs.Pages.{page_of, place_in}
use Rattle.logical_map.proofs.Listing.{Contains-filter}
use Rattle.logical_map.proofs.lists.ZoneList.tidy.Goals as goal

pub returns-clause-kept : goal.returns-clause-kept
returns-clause-kept c =
    let kept = filter_same _ (λ block. lies_in c.args.zone_size c.args.zone (place_in (page_of c.args.pages.now.items) block)) _ (λ x b f' k. search rules) _ _ c.retain.ensures.filtered in
    rw (← c.self.view_is, c.shrink_to_fit.ensures.items, dedup_is _ _ _ c.dedup.ensures.filtered) (λ block lies had.
    Contains-dedup_nat _ block (Contains-permutation _ _ block c.sort_unstable.ensures.permutation (rw kept (Contains-filter _ _ block lies had))))
