use Rattle.std.proofs.Common.{get_or, refl, arith}
use Rattle.drive_survey.specs.declared.heads.Head.{Head}
use Rattle.remount.proofs.ListingLaws.{lists-more, lists-none, lists-zone}
use Rattle.remount.proofs.tables.batches.list_zone.Goals as goal

pub loop-head-init : goal.loop-head-init
loop-head-init c = lists-none c.args.zone c.args.heads.now c.args.batches.now.items

pub loop-head-preserved : goal.loop-head-preserved
loop-head-preserved c =
    let d : Head = record { sequence = 0; offset = 0; end = 0 } in
    let head = get_or c.heads-head-items.result.now c.loop-head.head-index d in
    lists-more c.args.zone c.args.heads.now c.heads-head-items.result.now c.args.batches.now.items c.loop-head.batches.items c.push.new.self.items c.loop-head.before _ c.loop-head.head-index _ head d (record { head = head; zone = c.args.zone; before = c.loop-head.before })
    c.heads-head-items.ensures c.loop-head-test.true refl (omega arith) refl refl c.in_ok-push.ensures.items c.loop-head.invariant

pub returns : goal.returns
returns c = lists-zone c.args.zone c.args.heads.now c.args.batches.now.items c.loop-head.batches.items c.loop-head.before c.loop-head.head-index (rw (← c.heads-head-items.ensures) c.loop-head-test.false) c.loop-head.invariant
