use Rattle.drive_port.proofs.CallLaws.{adds-nothing}
use Rattle.zone_drive.proofs.zone_drive.ZoneDrive.execute.Goals as goal

pub returns-in_ok-flush-in-Flush-clause-ok : goal.returns-in_ok-flush-in-Flush-clause-ok
returns-in_ok-flush-in-Flush-clause-ok g c = rw c.in-Flush.is (adds-nothing _ _ (c.in_ok-flush-in-Flush.ensures.ok c.args.bytes.now))

pub returns-in-Read-clause-ok : goal.returns-in-Read-clause-ok
returns-in-Read-clause-ok g c = rw c.in-Read.is (c.read.ensures.ok c.args.bytes.now)

pub returns-in_ok-send-in-Send-clause-ok : goal.returns-in_ok-send-in-Send-clause-ok
returns-in_ok-send-in-Send-clause-ok g c = rw c.in-Send.is (adds-nothing _ _ (c.in_ok-send-in-Send.ensures.ok c.args.bytes.now))

pub returns-in-Receive-clause-ok : goal.returns-in-Receive-clause-ok
returns-in-Receive-clause-ok g c = rw c.in-Receive.is (c.receive.ensures.ok c.args.bytes.now)
