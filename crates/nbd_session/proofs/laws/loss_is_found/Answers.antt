use Rattle.nbd_session.proofs.SafeLaws.{flush-safe, left-found, session-safe}
use Rattle.nbd_session.proofs.laws.loss_is_found.Goals as goal

pub returns-clause-flush : goal.returns-clause-flush
returns-clause-flush c = flush-safe

pub returns-clause-session : goal.returns-clause-session
returns-clause-session c = session-safe

pub returns-clause-found : goal.returns-clause-found
returns-clause-found c = left-found
