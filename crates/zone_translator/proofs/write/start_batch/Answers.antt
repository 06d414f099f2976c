use Rattle.std.proofs.Common.{arith}
use Rattle.zone_translator.proofs.BatchLaws.{host-heading}
use Rattle.zone_translator.proofs.write.start_batch.Goals as goal

pub encode-requires-clause-heading : goal.encode-requires-clause-heading
encode-requires-clause-heading g c =
    let size = rw (← c.disk.view_is) at c.requires.size in
    rw (c.in_ok-name_blocks.ensures, c.start.ensures.heading) (host-heading c.geometry.result.block c.blocks-2.result c.next.result c.args.trim c.args.first c.args.count (rw c.blocks-2.ensures size) (rw c.geometry.ensures c.requires.room) (omega arith) (omega arith))
