use Rattle.std.proofs.Common.{◌+◌, refl, ap, ◌∙◌}
use Rattle.drive_rescue.specs.declared.ranges.BlockRange.{BlockRange}
use Rattle.drive_rescue.specs.Ranges.{blocks_in}
use Rattle.drive_rescue.proofs.RangeLaws.{longer-range}
use Rattle.drive_rescue.proofs.ranges.push_block.Goals as goal

pub returns-then-last-block-2 : goal.returns-then-last-block-2
returns-then-last-block-2 c =
    let more : BlockRange = record { first = c.in-Some.last.first; count = c.in-Some.last.count + 1 } in
    ap blocks_in c.in_ok-push.ensures.items
    ∙ longer-range c.args.ranges.now.items c.pop.new.self.items c.in-Some.last more c.args.block c.in-Some.ensures.items c.if-last-block.true c.if-last-block-2.true refl refl
