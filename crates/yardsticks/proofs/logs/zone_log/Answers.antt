use Rattle.std.proofs.Common.{◌∙◌, ap, arith}
use Rattle.yardsticks.specs.Batches.{held_blocks}
use Rattle.yardsticks.specs.Zones.{image_content}
use Rattle.yardsticks.proofs.ImageLaws.{if_none-weaker, if_some-weaker, read-sized, zone_log-found, zone_log-none}
use Rattle.yardsticks.proofs.logs.zone_log.Goals as goal

pub log-requires-clause-sizes : goal.log-requires-clause-sizes
log-requires-clause-sizes c = rw c.deref.ensures.value (read-sized c.args.geometry.now c.args.zone.now c.in_ok-blocks.blocks.items c.requires.whole c.in_ok-blocks.ensures)

pub returns-clause-some : goal.returns-clause-some
returns-clause-some c =
    let read = ap held_blocks c.deref.ensures.value ∙ c.in_ok-blocks.ensures in
    if_some-weaker c.log.result _ _ (λ log is. zone_log-found c.args.geometry.now (image_content c.args.zone.now) _ _ _ (omega (arith, c.requires.geometry.block)) c.is_full.ensures read is) c.log.ensures.some

pub returns-clause-none : goal.returns-clause-none
returns-clause-none c =
    let read = ap held_blocks c.deref.ensures.value ∙ c.in_ok-blocks.ensures in
    if_none-weaker c.log.result (zone_log-none c.args.geometry.now (image_content c.args.zone.now) _ _ c.is_full.ensures read) c.log.ensures.none
