use Rattle.std.proofs.Common.{◌≡◌, ◌∙◌, sym, ap, arith}
use Rattle.drive_array.specs.Records.{newest, records}
use Rattle.drive_array.specs.Repair.{is_data, kept_in}
use Rattle.yardsticks.specs.Zones.{is_data_in, held_logs}
use Rattle.yardsticks.proofs.HeardLaws.{live-one, live-same, data_in-kept}
use Rattle.yardsticks.proofs.live.live_data.Goals.{else-is_data_in, then-is_data_in}
use Rattle.yardsticks.proofs.live.live_data.Goals as goal

pub loop-block-preserved : goal.loop-block-preserved
loop-block-preserved c =
    let logs = held_logs c.args.logs.now in
    let block = c.loop-block.block in
    let zone = c.args.zone in
    let kept : c.is_data_in.result ≡ kept_in is_data zone (newest block (records 0 logs)) = c.is_data_in.ensures ∙ ap (is_data_in zone) c.newest.ensures ∙ data_in-kept zone (newest block (records 0 logs)) in
    elim c.if-is_data_in.branch [
      | then-is_data_in w ↦ record { counted = w.count-is ∙ live-one is_data block logs zone c.loop-block.count c.loop-block.invariant.counted (sym kept ∙ w.if-is_data_in.true); small = omega (arith, w.count-is, c.loop-block.invariant.small) }
      | else-is_data_in w ↦ record { counted = w.count-is ∙ live-same is_data block logs zone c.loop-block.count c.loop-block.invariant.counted (sym kept ∙ w.if-is_data_in.false); small = omega (arith, w.count-is, c.loop-block.invariant.small) }
    ]
