use Rattle.batch_log.proofs.HeaderLaws.{header_length}
use Rattle.batch_log.proofs.laws.header_length.Goals as goal

pub returns : goal.returns
returns c = header_length
