use Rattle.nbd_jobs.proofs.FailLaws.{unasked-forgotten, unasked-served}
use Rattle.nbd_jobs.proofs.laws.fails_only_if_asked.Goals as goal

pub returns-clause-served : goal.returns-clause-served
returns-clause-served c = unasked-served

pub returns-clause-forgotten : goal.returns-clause-forgotten
returns-clause-forgotten c = unasked-forgotten
