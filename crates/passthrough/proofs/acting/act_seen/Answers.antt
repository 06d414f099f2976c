use Rattle.passthrough.proofs.ReadyLaws.{effect-closes, effect-left}
use Rattle.passthrough.proofs.acting.act_seen.Goals as goal

pub returns-then-is_err-clause-asks : goal.returns-then-is_err-clause-asks
returns-then-is_err-clause-asks g c = effect-left _ _ _ _ _ _ _ (effect-closes _ _ _ _ _ _ _ _ c.in_ok-value.ensures.asks c.look.ensures.closes)

pub returns-clause-asks : goal.returns-clause-asks
returns-clause-asks g c = effect-closes _ _ _ _ _ _ _ _ c.in_ok-value.ensures.asks c.look.ensures.closes
