use Rattle.drive_array.proofs.ZoneLogLaws.{append_logs, torn_logs}
use Rattle.drive_array.proofs.laws.append_logs.Goals as goal

pub returns-clause-whole : goal.returns-clause-whole
returns-clause-whole c = append_logs

pub returns-clause-torn : goal.returns-clause-torn
returns-clause-torn c = torn_logs
