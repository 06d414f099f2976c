use Rattle.batch_log.proofs.HeaderLaws.{header_again}
use Rattle.batch_log.proofs.laws.header_again.Goals as goal

pub returns : goal.returns
returns c = header_again
