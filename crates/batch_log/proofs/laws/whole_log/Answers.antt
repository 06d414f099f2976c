use Rattle.batch_log.proofs.LogLaws.{no_tail, whole_log}
use Rattle.batch_log.proofs.laws.whole_log.Goals as goal

pub returns-clause-log : goal.returns-clause-log
returns-clause-log c = whole_log

pub returns-clause-back : goal.returns-clause-back
returns-clause-back c = no_tail
