use Rattle.std.proofs.Common.{get_or, refl, arith}
use Rattle.std.proofs.lemmas.List.{drop_all}
use Rattle.drive_survey.specs.declared.heads.Head.{Head}
use Rattle.drive_survey.specs.KeptRecords.{kept_of_zone}
use Rattle.drive_survey.proofs.NewestRecordLaws.{batch-more, taken-all, taken-none}
use Rattle.drive_survey.proofs.clearing.newest.take_zone.Goals as goal

pub loop-head-init : goal.loop-head-init
loop-head-init c = rw c.entries-rest.ensures (taken-none c.args.newest.now (kept_of_zone c.args.zone c.args.heads.now))

pub loop-head-preserved : goal.loop-head-preserved
loop-head-preserved c =
    let d : Head = record { sequence = 0; offset = 0; end = 0 } in
    batch-more c.args.newest.now c.loop-head.newest c.take_batch.new.newest c.args.zone c.loop-head.from c.loop-head.head-index _ c.min.result c.args.heads.now.heads c.heads-head-items.result.now (get_or c.heads-head-items.result.now c.loop-head.head-index d) d c.loop-head.rest.now c.split_at.result.0.now _ _
    c.heads-head-items.ensures c.loop-head-test.true refl (omega arith) (rw (← c.saturating_sub-count.ensures) c.min.ensures) c.split_at.ensures.front c.split_at.ensures.back c.in_ok-take_batch.ensures c.loop-head.invariant

pub returns : goal.returns
returns c =
    taken-all c.args.newest.now c.loop-head.newest (kept_of_zone c.args.zone c.args.heads.now) (rw (drop_all c.loop-head.head-index c.args.heads.now.heads (rw (← c.heads-head-items.ensures) c.loop-head-test.false)) at c.loop-head.invariant)
