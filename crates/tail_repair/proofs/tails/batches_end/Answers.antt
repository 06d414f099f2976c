use Rattle.tail_repair.proofs.CauseLaws.{scan-says}
use Rattle.tail_repair.proofs.TailLaws.{scan-log}
use Rattle.tail_repair.proofs.tails.batches_end.Goals as goal

pub returns-in-Ok-clause-ok : goal.returns-in-Ok-clause-ok
returns-in-Ok-clause-ok g c clean =
    rw c.blocks-in-Ok.ensures (scan-log (g.D.Device.drive c.args.device.now) c.args.zone.number _ _ c.in-Ok.scanned.heads c.in-Ok.scanned.is_torn c.requires.zone.geometry (c.in-Ok.ensures.ok clean))

pub returns-clause-ok : goal.returns-clause-ok
returns-clause-ok g c clean =
    rw c.foreign_end.ensures (scan-says (g.D.Device.drive c.args.device.now) (g.D.Device.drive c.scan_zone.new.device) c.args.zone.number c.in-Err.fault c.requires.zone.geometry (rw c.new-seen.ensures.empty at (c.in-Err.ensures.err clean))).0

pub returns-clause-err : goal.returns-clause-err
returns-clause-err g c clean =
    rw c.foreign_end.ensures (scan-says (g.D.Device.drive c.args.device.now) (g.D.Device.drive c.scan_zone.new.device) c.args.zone.number c.in-Err.fault c.requires.zone.geometry (rw c.new-seen.ensures.empty at (c.in-Err.ensures.err clean))).1
