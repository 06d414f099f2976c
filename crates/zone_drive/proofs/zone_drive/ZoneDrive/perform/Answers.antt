use Rattle.drive_port.proofs.CallLaws.{adds-nothing}
use Rattle.zone_drive.proofs.OutcomeLaws.{gives-fault}
use Rattle.zone_drive.proofs.zone_drive.ZoneDrive.perform.Goals as goal

pub returns-in-Err-clause-ok : goal.returns-in-Err-clause-ok
returns-in-Err-clause-ok g c = rw (c.refused.ensures, c.fault_status.ensures, c.in-Err.is) (adds-nothing _ _ (gives-fault c.args.self.now.drive c.in-Err.fault c.args.bytes.now))
