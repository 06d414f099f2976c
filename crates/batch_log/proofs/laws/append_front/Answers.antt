use Rattle.batch_log.proofs.LogLaws.{append_front}
use Rattle.batch_log.proofs.laws.append_front.Goals as goal

pub returns : goal.returns
returns c = append_front
