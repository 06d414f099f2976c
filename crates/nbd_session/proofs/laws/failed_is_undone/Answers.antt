use Rattle.nbd_session.proofs.FailureLaws.{answered-by_disk, failed-undone}
use Rattle.nbd_session.proofs.laws.failed_is_undone.Goals as goal

pub returns-clause-undone : goal.returns-clause-undone
returns-clause-undone c = failed-undone

pub returns-clause-answered : goal.returns-clause-answered
returns-clause-answered c = answered-by_disk
