use Rattle.drive_inspection.proofs.ListLaws.{met_step, repeats_step}
use Rattle.drive_inspection.proofs.lists.add_repeats.Goals as goal

pub loop-head-preserved : goal.loop-head-preserved
loop-head-preserved c = record {
  found = repeats_step c.args.zone c.loop-head.head-index c.args.heads.now _ c.loop-head.seen.keys c.add_repeat.new.seen.keys c.loop-head.found.items c.add_repeat.new.found.items _ c.loop-head-test.true c.loop-head.invariant.found c.in_ok-add_repeat.ensures.found c.in_ok-add_repeat.ensures.seen;
  seen = met_step c.loop-head.head-index c.args.heads.now _ c.loop-head.seen.keys c.add_repeat.new.seen.keys _ c.loop-head-test.true c.in_ok-add_repeat.ensures.seen c.loop-head.invariant.seen;
}
