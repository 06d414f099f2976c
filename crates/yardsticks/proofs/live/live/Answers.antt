use Rattle.std.proofs.Common.{◌≡◌, ◌∙◌, sym, ap, arith}
use Rattle.drive_array.specs.Records.{newest, records}
use Rattle.drive_array.specs.Repair.{is_any, kept_in}
use Rattle.yardsticks.specs.Zones.{is_said_in, held_logs}
use Rattle.yardsticks.proofs.HeardLaws.{live-one, live-same, said_in-kept}
use Rattle.yardsticks.proofs.live.live.Goals.{else-is_said_in, then-is_said_in}
use Rattle.yardsticks.proofs.live.live.Goals as goal

pub loop-block-preserved : goal.loop-block-preserved
loop-block-preserved c =
    let logs = held_logs c.args.logs.now in
    let block = c.loop-block.block in
    let zone = c.args.zone in
    let kept : c.is_said_in.result ≡ kept_in is_any zone (newest block (records 0 logs)) = c.is_said_in.ensures ∙ ap (is_said_in zone) c.newest.ensures ∙ said_in-kept zone (newest block (records 0 logs)) in
    elim c.if-is_said_in.branch [
      | then-is_said_in w ↦ record { counted = w.count-is ∙ live-one is_any block logs zone c.loop-block.count c.loop-block.invariant.counted (sym kept ∙ w.if-is_said_in.true); small = omega (arith, w.count-is, c.loop-block.invariant.small) }
      | else-is_said_in w ↦ record { counted = w.count-is ∙ live-same is_any block logs zone c.loop-block.count c.loop-block.invariant.counted (sym kept ∙ w.if-is_said_in.false); small = omega (arith, w.count-is, c.loop-block.invariant.small) }
    ]
