use Rattle.nbd_session.proofs.ModeLaws.{session-grows}
use Rattle.nbd_session.proofs.laws.session_keeps_mode.Goals as goal

pub returns : goal.returns
returns c = session-grows
