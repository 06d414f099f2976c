use Rattle.batch_log.proofs.LogLaws.{append_batch}
use Rattle.batch_log.proofs.laws.append_batch.Goals as goal

pub returns : goal.returns
returns c = append_batch
