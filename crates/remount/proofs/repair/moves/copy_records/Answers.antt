use Rattle.std.proofs.Common.{◌+◌, ℕ, List, get_or, drop, refl, subst, arith}
use Rattle.std.specs.List.{AllByRecursion}
use Rattle.remount.specs.Moving.{IsNamed}
use Rattle.remount.proofs.MoveBuildLaws.{copied-all, copies-added, copying-begin, copying-step, turn}
use Rattle.remount.proofs.EmptyLaws.{stays-both}
use Rattle.drive_survey.proofs.NextLaws.{if-fault}
use Rattle.drive_survey.proofs.ReadLaws.{kept-known, keeps-both}
use Rattle.remount.proofs.repair.moves.copy_records.Goals as goal

pub loop-block-init : goal.loop-block-init
loop-block-init g c = copying-begin (g.D.Device.drive c.args.device.now) c.args.tables.now c.args.zone.number c.args.zone.reported c.args.next.now.batch c.args.blocks.now c.geometry-size.ensures.lawful c.requires.named

pub place_of-requires : goal.place_of-requires
place_of-requires g c =
    let i = c.loop-block.block-index in
    let block = get_or c.args.blocks.now i 0 in
    let split = turn c.args.blocks.now i block 0 c.loop-block-test.true refl in
    let left = subst (λ (bs : List ℕ). AllByRecursion (IsNamed c.args.tables.now) bs) split c.loop-block.invariant.named in
    left.0.0

pub returns-in_err-copy_record-clause-err : goal.returns-in_err-copy_record-clause-err
returns-in_err-copy_record-clause-err g c = λ known all.
    let i = c.loop-block.block-index in
    let block = get_or c.args.blocks.now i 0 in
    let split = turn c.args.blocks.now i block 0 c.loop-block-test.true refl in
    let was = c.loop-block.invariant in
    let left = rw split at (was.readable all) in
    if-fault c.from_residual.result c.in_err-copy_record.field-0.0 _ c.from_residual.ensures.1 ((rw c.place_of.ensures at c.in_err-copy_record.ensures.err) (kept-known _ _ c.args.zone.number c.args.zone.reported (was.kept known) known) (rw was.stays.geometry left.0.place))

pub returns-in_err-copy_record-clause-kept : goal.returns-in_err-copy_record-clause-kept
returns-in_err-copy_record-clause-kept g c = λ known.
    let was = c.loop-block.invariant in
    keeps-both _ _ _ (was.kept known) (c.copy_record.ensures.kept (kept-known _ _ c.args.zone.number c.args.zone.reported (was.kept known) known))

pub returns-in_err-copy_record-clause-stays : goal.returns-in_err-copy_record-clause-stays
returns-in_err-copy_record-clause-stays g c = stays-both _ _ _ c.loop-block.invariant.stays c.copy_record.ensures.stays

pub loop-block-preserved : goal.loop-block-preserved
loop-block-preserved g c =
    let i = c.loop-block.block-index in
    let block = get_or c.args.blocks.now i 0 in
    let split = turn c.args.blocks.now i block 0 c.loop-block-test.true refl in
    copying-step (g.D.Device.drive c.args.device.now) (g.D.Device.drive c.loop-block.device) (g.D.Device.drive c.copy_record.new.device) c.args.tables.now c.args.zone.number c.args.zone.reported c.args.next.now.batch c.loop-block.next.batch c.copy_record.new.next.batch c.args.blocks.now (drop (i + 1) c.args.blocks.now) i block split
    c.loop-block.invariant c.copy_record.ensures.stays c.copy_record.ensures.kept c.copy_record.ensures.heading (rw c.place_of.ensures at c.in_ok-copy_record.ensures.grown) (rw c.place_of.ensures at c.in_ok-copy_record.ensures.bytes)

pub returns-clause-bytes : goal.returns-clause-bytes
returns-clause-bytes g c = λ clean known all.
    let done = copied-all _ _ _ c.args.zone.number _ _ _ c.args.blocks.now c.loop-block.block-index (omega (arith, c.loop-block-test.false)) c.loop-block.invariant in
    copies-added _ _ _ c.args.zone.number _ _ _ c.args.blocks.now (done.copied clean known all)

pub returns-clause-grown : goal.returns-clause-grown
returns-clause-grown g c =
    let done = copied-all _ _ _ c.args.zone.number _ _ _ c.args.blocks.now c.loop-block.block-index (omega (arith, c.loop-block-test.false)) c.loop-block.invariant in
    record { got = done.got; joined = done.joined; long = omega (arith, done.count) }

pub returns-clause-heading : goal.returns-clause-heading
returns-clause-heading g c = c.loop-block.invariant.heading

pub returns-clause-kept : goal.returns-clause-kept
returns-clause-kept g c = c.loop-block.invariant.kept

pub returns-clause-stays : goal.returns-clause-stays
returns-clause-stays g c = c.loop-block.invariant.stays
