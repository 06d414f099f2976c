use Rattle.drive_port.proofs.ClosingLaws.{contents-closing}
use Rattle.drive_port.proofs.laws.closing_keeps_contents.Goals as goal

pub returns : goal.returns
returns c = contents-closing
