use Rattle.nbd_session.proofs.ReadOnlyLaws.{read_only-kept}
use Rattle.nbd_session.proofs.laws.read_only_keeps_array.Goals as goal

pub returns : goal.returns
returns c = read_only-kept
