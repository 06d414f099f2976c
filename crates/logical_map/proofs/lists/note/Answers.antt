use Rattle.std.proofs.Common.{◌<◌, length, arith}
use Rattle.std.proofs.lemmas.List.{get_or_read}
use Rattle.logical_map.specs.Lists.{missing}
use Rattle.logical_map.proofs.Listing.{follows-noted}
use Rattle.logical_map.proofs.lists.note.Goals as goal

pub returns : goal.returns
returns c =
    let below : c.in-Some.zone < length c.args.lists.now.items = omega (arith, c.if-zone-len.false, c.len.ensures, c.args.lists.now.ok.0) in
    let notes = rw (get_or_read c.args.lists.now.items c.in-Some.zone c.index_mut.result.now below c.index_mut.ensures.value missing) at c.note.ensures in
    rw c.in-Some.is (follows-noted c.args.lists.now.items c.args.was c.in-Some.zone c.args.block c.note.new.self below notes)
