use Rattle.nbd_jobs.proofs.LossLaws.{loss-found}
use Rattle.nbd_jobs.proofs.laws.loss_is_found.Goals as goal

pub returns : goal.returns
returns c = loss-found
