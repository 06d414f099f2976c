use Rattle.drive_array.proofs.ZoneLogLaws.{finish_logs}
use Rattle.drive_array.proofs.laws.finish_logs.Goals as goal

pub returns : goal.returns
returns c = finish_logs
