use Rattle.std.proofs.Common.{◌<◌, ◌∙◌, ap, length, arith}
use Rattle.std.proofs.lemmas.List.{get_or_read}
use Rattle.logical_map.specs.Lists.{ListView, missing}
use Rattle.logical_map.specs.Pages.{page_of}
use Rattle.logical_map.proofs.Listing.{shorter-at}
use Rattle.logical_map.proofs.lists.shorten.Goals as goal

pub returns : goal.returns
returns c =
    let lists = c.args.lists.now.items in
    let below : c.in-Some.was < length lists = omega (arith, c.if-was-len.false, c.len.ensures, c.args.lists.now.ok.0) in
    let here = get_or_read lists c.in-Some.was c.index_mut.result.now below c.index_mut.ensures.value missing in
    shorter-at (page_of c.args.pages.now.items) c.args.zone_size c.in-Some.was lists c.tidy.new.self below (c.tidy.ensures.whole ∙ ap (λ (l : ListView). l.whole) here) (rw here at c.tidy.ensures.kept)
