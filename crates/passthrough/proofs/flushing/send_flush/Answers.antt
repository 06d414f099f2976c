use Rattle.std.proofs.Common.{refl}
use Rattle.passthrough.proofs.ReadyLaws.{query-left}
use Rattle.passthrough.proofs.flushing.send_flush.Goals as goal

pub returns-clause-closes : goal.returns-clause-closes
returns-clause-closes g c = query-left _ _ _ _ _ refl c.submit.ensures.answers.left
