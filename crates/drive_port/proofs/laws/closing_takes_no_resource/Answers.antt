use Rattle.drive_port.proofs.ClosingLaws.{active_count-closing, open_count-closing}
use Rattle.drive_port.proofs.laws.closing_takes_no_resource.Goals as goal

pub returns-clause-active : goal.returns-clause-active
returns-clause-active c = active_count-closing

pub returns-clause-open_zones : goal.returns-clause-open_zones
returns-clause-open_zones c = open_count-closing
