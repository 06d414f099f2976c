use Rattle.batch_log.proofs.LogLaws.{finish}
use Rattle.batch_log.proofs.laws.finish.Goals as goal

pub returns : goal.returns
returns c = finish
