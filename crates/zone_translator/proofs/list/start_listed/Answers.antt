use Rattle.std.proofs.Common.{arith}
use Rattle.zone_translator.proofs.ListedWriteLaws.{listed-heading}
use Rattle.zone_translator.proofs.list.start_listed.Goals as goal

pub encode-requires-clause-heading : goal.encode-requires-clause-heading
encode-requires-clause-heading g c =
    let size = rw (← c.disk.view_is) at c.requires.size in
    let below = rw (← c.disk.view_is) at c.requires.below in
    rw (c.in_ok-name_all.ensures.heading, c.start.ensures.heading) (listed-heading c.geometry.result.block c.blocks-2.result c.next.result c.args.entries.now (rw c.blocks-2.ensures size) (rw c.geometry.ensures c.requires.room) (omega arith) (omega arith) (rw c.blocks-2.ensures below) c.requires.distinct)
