use Rattle.batch_log.proofs.LogLaws.{one_tail}
use Rattle.batch_log.proofs.laws.one_tail.Goals as goal

pub returns : goal.returns
returns c = one_tail
