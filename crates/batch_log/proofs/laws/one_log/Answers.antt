use Rattle.batch_log.proofs.LogLaws.{one_log}
use Rattle.batch_log.proofs.laws.one_log.Goals as goal

pub returns : goal.returns
returns c = one_log
