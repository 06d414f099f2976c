use Rattle.nbd_session.proofs.OrderLaws.{group-is-its-writes}
use Rattle.nbd_session.proofs.laws.group_is_its_writes.Goals as goal

pub returns : goal.returns
returns c = group-is-its-writes
