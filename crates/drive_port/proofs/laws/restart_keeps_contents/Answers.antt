use Rattle.drive_port.proofs.ClosingLaws.{contents-restarted, lawful-restarted}
use Rattle.drive_port.proofs.laws.restart_keeps_contents.Goals as goal

pub returns-clause-contents : goal.returns-clause-contents
returns-clause-contents c drive = contents-restarted drive.zones

pub returns-clause-lawful : goal.returns-clause-lawful
returns-clause-lawful c = lawful-restarted
