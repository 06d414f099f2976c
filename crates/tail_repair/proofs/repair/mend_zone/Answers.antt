use Rattle.drive_survey.proofs.ReadLaws.{keeps-both, kept-known}
use Rattle.tail_repair.proofs.CauseLaws.{find-told, if-fault, repair-told}
use Rattle.tail_repair.proofs.KeepLaws.{beside-then, drive-then, in-then}
use Rattle.tail_repair.proofs.TailLaws.{ends-kept, ends-same, known-still, look-beside, look-in, look-keeps}
use Rattle.tail_repair.proofs.repair.mend_zone.Goals as goal

-- ---- the scan

pub returns-in_err-end-clause-beside : goal.returns-in_err-end-clause-beside
returns-in_err-end-clause-beside g c clean = look-beside _ _ c.args.front.zone.number c.batches_end.ensures.kept

pub returns-in_err-end-clause-told : goal.returns-in_err-end-clause-told
returns-in_err-end-clause-told g c clean = if-fault c.from_residual.result c.in_err-end.field-0.0 _ c.from_residual.ensures.1 (find-told (g.D.Device.drive c.args.device.now) (g.D.Device.drive c.batches_end.new.device) c.in_err-end.field-0.0 (c.in_err-end.ensures.err clean))

pub returns-in_err-end-clause-kept : goal.returns-in_err-end-clause-kept
returns-in_err-end-clause-kept g c = look-keeps _ _ c.batches_end.ensures.kept

pub returns-then-end-blocks-clause-beside : goal.returns-then-end-blocks-clause-beside
returns-then-end-blocks-clause-beside g c clean = look-beside _ _ c.args.front.zone.number c.batches_end.ensures.kept

pub returns-then-end-blocks-clause-kept : goal.returns-then-end-blocks-clause-kept
returns-then-end-blocks-clause-kept g c = look-keeps _ _ c.batches_end.ensures.kept

-- ---- a zone without a batch

pub reset_moved-requires-clause-ends : goal.reset_moved-requires-clause-ends
reset_moved-requires-clause-ends g c clean = ends-kept _ _ c.args.front.zone.number c.args.front.blocks c.batches_end.ensures.kept (ends-same _ c.args.front.zone.number _ _ _ c.if-end-blocks.false (c.in_ok-end.ensures.ok clean))

pub returns-in_err-reset_moved-clause-beside : goal.returns-in_err-reset_moved-clause-beside
returns-in_err-reset_moved-clause-beside g c clean =
    let zone = c.args.front.zone.number in
    beside-then (g.D.Device.drive c.args.device.now) (g.D.Device.drive c.batches_end.new.device) (g.D.Device.drive c.reset_moved.new.device) zone (look-beside _ _ zone c.batches_end.ensures.kept) (c.reset_moved.ensures.beside clean)

pub returns-in_err-reset_moved-clause-kept : goal.returns-in_err-reset_moved-clause-kept
returns-in_err-reset_moved-clause-kept g c = drive-then _ _ _ (look-keeps _ _ c.batches_end.ensures.kept) c.reset_moved.ensures.kept

pub returns-then-blocks-eq0-clause-there : goal.returns-then-blocks-eq0-clause-there
returns-then-blocks-eq0-clause-there g c clean =
    let zone = c.args.front.zone.number in
    in-then (g.D.Device.drive c.args.device.now) (g.D.Device.drive c.batches_end.new.device) (g.D.Device.drive c.reset_moved.new.device) zone zone zone (look-in _ _ zone c.batches_end.ensures.kept) (c.reset_moved.ensures.there clean)

pub returns-then-blocks-eq0-clause-beside : goal.returns-then-blocks-eq0-clause-beside
returns-then-blocks-eq0-clause-beside g c clean =
    let zone = c.args.front.zone.number in
    beside-then (g.D.Device.drive c.args.device.now) (g.D.Device.drive c.batches_end.new.device) (g.D.Device.drive c.reset_moved.new.device) zone (look-beside _ _ zone c.batches_end.ensures.kept) (c.reset_moved.ensures.beside clean)

pub returns-then-blocks-eq0-clause-kept : goal.returns-then-blocks-eq0-clause-kept
returns-then-blocks-eq0-clause-kept g c = drive-then _ _ _ (look-keeps _ _ c.batches_end.ensures.kept) c.reset_moved.ensures.kept

-- ---- a zone that holds a log now

pub returns-then-not-end-clause-there : goal.returns-then-not-end-clause-there
returns-then-not-end-clause-there g c clean = look-in _ _ c.args.front.zone.number c.batches_end.ensures.kept

pub returns-then-not-end-clause-beside : goal.returns-then-not-end-clause-beside
returns-then-not-end-clause-beside g c clean = look-beside _ _ c.args.front.zone.number c.batches_end.ensures.kept

pub returns-then-not-end-clause-kept : goal.returns-then-not-end-clause-kept
returns-then-not-end-clause-kept g c = look-keeps _ _ c.batches_end.ensures.kept

-- ---- a zone whose batches are moved

pub returns-then-blocks-front-clause-beside : goal.returns-then-blocks-front-clause-beside
returns-then-blocks-front-clause-beside g c clean = look-beside _ _ c.args.front.zone.number c.batches_end.ensures.kept

pub returns-then-blocks-front-clause-kept : goal.returns-then-blocks-front-clause-kept
returns-then-blocks-front-clause-kept g c = look-keeps _ _ c.batches_end.ensures.kept

pub destination-requires-clause-known : goal.destination-requires-clause-known
destination-requires-clause-known g c = known-still _ _ c.args.zones.now c.batches_end.ensures.kept c.requires.known

pub destination-requires-clause-from : goal.destination-requires-clause-from
destination-requires-clause-from g c = kept-known _ _ c.args.front.zone.number c.args.front.zone.reported c.batches_end.ensures.kept c.requires.zone

pub returns-in_err-to-clause-beside : goal.returns-in_err-to-clause-beside
returns-in_err-to-clause-beside g c clean = look-beside _ _ c.args.front.zone.number (keeps-both _ _ _ c.batches_end.ensures.kept c.destination.ensures.kept)

pub returns-in_err-to-clause-told : goal.returns-in_err-to-clause-told
returns-in_err-to-clause-told g c clean = if-fault c.from_residual-in_err-to.result c.in_err-to.field-0.0 _ c.from_residual-in_err-to.ensures.1 (repair-told (g.D.Device.drive c.batches_end.new.device) (g.D.Device.drive c.destination.new.device) c.in_err-to.field-0.0 c.in_err-to.ensures.err)

pub returns-in_err-to-clause-kept : goal.returns-in_err-to-clause-kept
returns-in_err-to-clause-kept g c = look-keeps _ _ (keeps-both _ _ _ c.batches_end.ensures.kept c.destination.ensures.kept)

pub move_zone-requires-clause-ends : goal.move_zone-requires-clause-ends
move_zone-requires-clause-ends g c clean =
    let before = c.destination.ensures.kept.trusted clean in
    let zone = c.args.front.zone.number in
    ends-kept _ _ zone c.args.front.blocks (keeps-both _ _ _ c.batches_end.ensures.kept c.destination.ensures.kept) (ends-same _ zone _ _ _ c.if-end-blocks.false (c.in_ok-end.ensures.ok before))

pub returns-in_err-move_zone-clause-beside : goal.returns-in_err-move_zone-clause-beside
returns-in_err-move_zone-clause-beside g c clean =
    let zone = c.args.front.zone.number in
    beside-then (g.D.Device.drive c.args.device.now) (g.D.Device.drive c.destination.new.device) (g.D.Device.drive c.move_zone.new.device) zone (look-beside _ _ zone (keeps-both _ _ _ c.batches_end.ensures.kept c.destination.ensures.kept)) (c.move_zone.ensures.beside clean)

pub returns-in_err-move_zone-clause-kept : goal.returns-in_err-move_zone-clause-kept
returns-in_err-move_zone-clause-kept g c = drive-then _ _ _ (look-keeps _ _ (keeps-both _ _ _ c.batches_end.ensures.kept c.destination.ensures.kept)) c.move_zone.ensures.kept

pub returns-clause-there : goal.returns-clause-there
returns-clause-there g c clean =
    let zone = c.args.front.zone.number in
    in-then (g.D.Device.drive c.args.device.now) (g.D.Device.drive c.destination.new.device) (g.D.Device.drive c.move_zone.new.device) zone zone c.in_ok-to.to (look-in _ _ zone (keeps-both _ _ _ c.batches_end.ensures.kept c.destination.ensures.kept)) (c.in_ok-move_zone.ensures.there clean)

pub returns-clause-beside : goal.returns-clause-beside
returns-clause-beside g c clean =
    let zone = c.args.front.zone.number in
    beside-then (g.D.Device.drive c.args.device.now) (g.D.Device.drive c.destination.new.device) (g.D.Device.drive c.move_zone.new.device) zone (look-beside _ _ zone (keeps-both _ _ _ c.batches_end.ensures.kept c.destination.ensures.kept)) (c.move_zone.ensures.beside clean)

pub returns-clause-kept : goal.returns-clause-kept
returns-clause-kept g c = drive-then _ _ _ (look-keeps _ _ (keeps-both _ _ _ c.batches_end.ensures.kept c.destination.ensures.kept)) c.move_zone.ensures.kept

pub returns-then-is_later-clause-beside : goal.returns-then-is_later-clause-beside
returns-then-is_later-clause-beside g c clean = look-beside _ _ c.args.front.zone.number (keeps-both _ _ _ c.batches_end.ensures.kept c.destination.ensures.kept)

pub returns-then-is_later-clause-kept : goal.returns-then-is_later-clause-kept
returns-then-is_later-clause-kept g c = look-keeps _ _ (keeps-both _ _ _ c.batches_end.ensures.kept c.destination.ensures.kept)
