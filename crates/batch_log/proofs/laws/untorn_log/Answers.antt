use Rattle.batch_log.proofs.LogLaws.{untorn_log}
use Rattle.batch_log.proofs.laws.untorn_log.Goals as goal

pub returns : goal.returns
returns c = untorn_log
