use Rattle.nbd_jobs.proofs.ForgetLaws.{message-settled, settled-left}
use Rattle.nbd_jobs.proofs.laws.synced_is_left.Goals as goal

pub returns-clause-message : goal.returns-clause-message
returns-clause-message c = message-settled

pub returns-clause-left : goal.returns-clause-left
returns-clause-left c = settled-left
