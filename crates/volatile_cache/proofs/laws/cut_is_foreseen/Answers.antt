use Rattle.volatile_cache.proofs.CutLaws.{cut-foreseen, kill-outcome}
use Rattle.volatile_cache.proofs.laws.cut_is_foreseen.Goals as goal

pub returns-clause-cut : goal.returns-clause-cut
returns-clause-cut c = cut-foreseen

pub returns-clause-kill : goal.returns-clause-kill
returns-clause-kill c = kill-outcome
