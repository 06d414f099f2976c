use Rattle.nbd_jobs.proofs.SessionLaws.{job-while_clean}
use Rattle.nbd_jobs.proofs.laws.clean_is_right.Goals as goal

pub returns : goal.returns
returns c = job-while_clean
