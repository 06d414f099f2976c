use Rattle.tail_repair.proofs.KeepLaws.{beside-then, drive-then, extends-beside, extends-drive, extends-in, in-then, on-ok}
use Rattle.tail_repair.proofs.TailLaws.{ends-beside, ends-kept, look-beside, look-in, look-keeps, moved-kept}
use Rattle.tail_repair.proofs.repair.move_zone.Goals as goal

pub returns-in_err-copy_front-clause-beside : goal.returns-in_err-copy_front-clause-beside
returns-in_err-copy_front-clause-beside g c clean = extends-beside _ _ c.args.to c.args.front.zone.number c.copy_front.ensures.kept

pub returns-in_err-copy_front-clause-kept : goal.returns-in_err-copy_front-clause-kept
returns-in_err-copy_front-clause-kept g c = extends-drive _ _ c.args.to c.copy_front.ensures.kept

pub returns-in_err-compare-clause-beside : goal.returns-in_err-compare-clause-beside
returns-in_err-compare-clause-beside g c clean =
    beside-then (g.D.Device.drive c.args.device.now) (g.D.Device.drive c.copy_front.new.device) (g.D.Device.drive c.compare.new.device) c.args.front.zone.number (extends-beside _ _ c.args.to c.args.front.zone.number c.copy_front.ensures.kept) (look-beside _ _ c.args.front.zone.number c.compare.ensures.kept)

pub returns-in_err-compare-clause-kept : goal.returns-in_err-compare-clause-kept
returns-in_err-compare-clause-kept g c = drive-then _ _ _ (extends-drive _ _ c.args.to c.copy_front.ensures.kept) (look-keeps _ _ c.compare.ensures.kept)

pub reset_moved-requires-clause-ends : goal.reset_moved-requires-clause-ends
reset_moved-requires-clause-ends g c clean =
    let before = c.compare.ensures.kept.trusted clean in
    ends-kept _ _ c.args.front.zone.number c.args.front.blocks c.compare.ensures.kept
    (ends-beside _ _ c.args.front.zone.number c.args.front.blocks c.args.to c.copy_front.ensures.kept c.requires.apart (c.requires.ends (c.copy_front.ensures.kept.trusted before)))

pub reset_moved-requires-clause-moved : goal.reset_moved-requires-clause-moved
reset_moved-requires-clause-moved g c clean = record { apart = c.requires.apart; copy = moved-kept _ _ c.args.front.zone.number c.args.front.blocks c.args.to c.compare.ensures.kept (c.in_ok-compare.ensures.ok clean) }

pub returns-clause-there : goal.returns-clause-there
returns-clause-there g c clean =
    let zone = c.args.front.zone.number in
    let before = in-then (g.D.Device.drive c.args.device.now) (g.D.Device.drive c.copy_front.new.device) (g.D.Device.drive c.compare.new.device) zone zone zone (extends-in _ _ c.args.to zone c.copy_front.ensures.kept) (look-in _ _ zone c.compare.ensures.kept) in
    on-ok c.reset_moved.result (in-then (g.D.Device.drive c.args.device.now) (g.D.Device.drive c.compare.new.device) (g.D.Device.drive c.reset_moved.new.device) zone zone c.args.to before (c.reset_moved.ensures.there clean))

pub returns-clause-beside : goal.returns-clause-beside
returns-clause-beside g c clean =
    let zone = c.args.front.zone.number in
    let before = beside-then (g.D.Device.drive c.args.device.now) (g.D.Device.drive c.copy_front.new.device) (g.D.Device.drive c.compare.new.device) zone (extends-beside _ _ c.args.to zone c.copy_front.ensures.kept) (look-beside _ _ zone c.compare.ensures.kept) in
    beside-then (g.D.Device.drive c.args.device.now) (g.D.Device.drive c.compare.new.device) (g.D.Device.drive c.reset_moved.new.device) zone before (c.reset_moved.ensures.beside clean)

pub returns-clause-kept : goal.returns-clause-kept
returns-clause-kept g c = drive-then _ _ _ (drive-then _ _ _ (extends-drive _ _ c.args.to c.copy_front.ensures.kept) (look-keeps _ _ c.compare.ensures.kept)) c.reset_moved.ensures.kept
