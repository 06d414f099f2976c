use Rattle.std.proofs.Common.{inl, inr, refl}
use Rattle.drive_inspection.proofs.FaultLaws.{scan-failed, scan-interrupted}
use Rattle.drive_inspection.proofs.reading.read_usable.Goals as goal

pub returns-in-Err-Failed-clause-ok : goal.returns-in-Err-Failed-clause-ok
returns-in-Err-Failed-clause-ok g c clean = (
  rw c.requires.zone.usage c.requires.zone.usable,
  scan-failed (g.D.Device.drive c.scan_zone.new.device) _ _ c.args.zone.number _ (rw c.in-Err-Failed.field-0-is at (c.in-Err-Failed.ensures.err clean)),
)

pub returns-in-Err-Halted-clause-err : goal.returns-in-Err-Halted-clause-err
returns-in-Err-Halted-clause-err g c clean =
    scan-interrupted (g.D.Device.drive c.scan_zone.new.device) _ _ c.args.zone.number _ _ (inr (inl refl)) (rw c.in-Err-Halted.field-0-is at (c.in-Err-Halted.ensures.err clean))

pub returns-in-Err-Damaged-clause-err : goal.returns-in-Err-Damaged-clause-err
returns-in-Err-Damaged-clause-err g c clean =
    scan-interrupted (g.D.Device.drive c.scan_zone.new.device) _ _ c.args.zone.number _ _ (inr (inr (inr refl))) (rw c.in-Err-Damaged.field-0-is at (c.in-Err-Damaged.ensures.err clean))
