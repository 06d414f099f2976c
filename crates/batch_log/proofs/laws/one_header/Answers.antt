use Rattle.batch_log.proofs.HeaderLaws.{one_header}
use Rattle.batch_log.proofs.laws.one_header.Goals as goal

pub returns : goal.returns
returns c = one_header
