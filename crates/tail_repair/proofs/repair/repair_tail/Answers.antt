use Rattle.tail_repair.proofs.CauseLaws.{find-told, if-fault}
use Rattle.tail_repair.proofs.KeepLaws.{beside-then, drive-then, extends-beside, extends-drive, extends-in, in-then}
use Rattle.tail_repair.proofs.MovedLaws.{where-then}
use Rattle.tail_repair.proofs.TailLaws.{known-in, look-beside, look-in, look-keeps}
use Rattle.tail_repair.proofs.repair.repair_tail.Goals as goal

pub returns-in_err-finish_zone-clause-beside : goal.returns-in_err-finish_zone-clause-beside
returns-in_err-finish_zone-clause-beside g c clean = extends-beside _ _ c.args.tail.zone c.args.tail.zone c.finish_zone.ensures.kept

pub returns-in_err-zones-clause-beside : goal.returns-in_err-zones-clause-beside
returns-in_err-zones-clause-beside g c clean =
    let zone = c.args.tail.zone in
    beside-then (g.D.Device.drive c.args.device.now) (g.D.Device.drive c.finish_zone.new.device) (g.D.Device.drive c.known_zones.new.device) zone (extends-beside _ _ zone zone c.finish_zone.ensures.kept) (look-beside _ _ zone c.known_zones.ensures.kept)

pub returns-in_err-zones-clause-told : goal.returns-in_err-zones-clause-told
returns-in_err-zones-clause-told g c clean = if-fault c.from_residual-in_err-zones.result c.in_err-zones.field-0.0 _ c.from_residual-in_err-zones.ensures.1 (find-told (g.D.Device.drive c.finish_zone.new.device) (g.D.Device.drive c.known_zones.new.device) c.in_err-zones.field-0.0 c.in_err-zones.ensures.err)

pub returns-in_err-zones-clause-kept : goal.returns-in_err-zones-clause-kept
returns-in_err-zones-clause-kept g c = drive-then _ _ _ (extends-drive _ _ c.args.tail.zone c.finish_zone.ensures.kept) (look-keeps _ _ c.known_zones.ensures.kept)

pub returns-in_default-clause-beside : goal.returns-in_default-clause-beside
returns-in_default-clause-beside g c clean =
    let zone = c.args.tail.zone in
    beside-then (g.D.Device.drive c.args.device.now) (g.D.Device.drive c.finish_zone.new.device) (g.D.Device.drive c.known_zones.new.device) zone (extends-beside _ _ zone zone c.finish_zone.ensures.kept) (look-beside _ _ zone c.known_zones.ensures.kept)

pub returns-in_default-clause-kept : goal.returns-in_default-clause-kept
returns-in_default-clause-kept g c = drive-then _ _ _ (extends-drive _ _ c.args.tail.zone c.finish_zone.ensures.kept) (look-keeps _ _ c.known_zones.ensures.kept)

pub mend_zone-requires-clause-zone : goal.mend_zone-requires-clause-zone
mend_zone-requires-clause-zone g c = known-in _ c.in_ok-zones.zones.items c.args.tail.zone c.in-Some.zone.number c.in-Some.zone.reported c.in_ok-zones.ensures.ok c.in-Some.ensures.0 (rw (← c.deref.ensures.value) c.in-Some.ensures.1)

pub returns-clause-there : goal.returns-clause-there
returns-clause-there g c clean =
    where-then (g.D.Device.drive c.args.device.now) (g.D.Device.drive c.known_zones.new.device) (g.D.Device.drive c.mend_zone.new.device) c.mend_zone.result (λ zone. in-then (g.D.Device.drive c.args.device.now) (g.D.Device.drive c.finish_zone.new.device) (g.D.Device.drive c.known_zones.new.device) zone zone zone (extends-in _ _ c.args.tail.zone zone c.finish_zone.ensures.kept) (look-in _ _ zone c.known_zones.ensures.kept)) (c.mend_zone.ensures.there clean)

pub returns-clause-beside : goal.returns-clause-beside
returns-clause-beside g c clean =
    let zone = c.args.tail.zone in
    let mended = rw c.in-Some.ensures.0 at (c.mend_zone.ensures.beside clean) in
    beside-then (g.D.Device.drive c.args.device.now) (g.D.Device.drive c.known_zones.new.device) (g.D.Device.drive c.mend_zone.new.device) zone (beside-then (g.D.Device.drive c.args.device.now) (g.D.Device.drive c.finish_zone.new.device) (g.D.Device.drive c.known_zones.new.device) zone (extends-beside _ _ zone zone c.finish_zone.ensures.kept) (look-beside _ _ zone c.known_zones.ensures.kept)) mended

pub returns-clause-kept : goal.returns-clause-kept
returns-clause-kept g c = drive-then _ _ _ (drive-then _ _ _ (extends-drive _ _ c.args.tail.zone c.finish_zone.ensures.kept) (look-keeps _ _ c.known_zones.ensures.kept)) c.mend_zone.ensures.kept

pub returns-clause-apart : goal.returns-clause-apart
returns-clause-apart g c = rw c.in-Some.ensures.0 at c.mend_zone.ensures.apart
