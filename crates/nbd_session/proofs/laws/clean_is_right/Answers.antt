use Rattle.nbd_session.proofs.WhileLaws.{served-clean}
use Rattle.nbd_session.proofs.laws.clean_is_right.Goals as goal

pub returns : goal.returns
returns c = served-clean
