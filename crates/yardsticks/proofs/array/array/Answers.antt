use Rattle.std.proofs.Common.{◌∙◌, ap}
use Rattle.drive_array.specs.Records.{newest, records}
use Rattle.yardsticks.specs.Zones.{logs_but, held_logs, said_block}
use Rattle.yardsticks.proofs.HeardLaws.{array-step, shown_by-shown}
use Rattle.yardsticks.proofs.array.array.Goals as goal

pub loop-block-preserved : goal.loop-block-preserved
loop-block-preserved c =
    let size = c.args.block_bytes in
    let rs = records 0 (logs_but c.args.left_out (held_logs c.args.logs.now)) in
    let shows = c.in_ok-shown.ensures ∙ ap (said_block size) c.newest-said.ensures ∙ shown_by-shown size (newest c.loop-block.block rs) in
    array-step size c.loop-block.block rs c.loop-block.blocks.items _ c.in_ok-shown.field-0 c.loop-block.invariant c.in_ok-push.ensures.items shows
