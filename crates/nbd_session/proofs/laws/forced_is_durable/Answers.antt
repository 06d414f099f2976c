use Rattle.nbd_session.proofs.DurableLaws.{forced-durable}
use Rattle.nbd_session.proofs.laws.forced_is_durable.Goals as goal

pub returns : goal.returns
returns c = forced-durable
