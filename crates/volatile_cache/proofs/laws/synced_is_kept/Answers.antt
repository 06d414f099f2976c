use Rattle.volatile_cache.proofs.CutLaws.{cut-settled}
use Rattle.volatile_cache.proofs.RequestLaws.{request-forced, request-settled}
use Rattle.volatile_cache.proofs.laws.synced_is_kept.Goals as goal

pub returns-clause-forced : goal.returns-clause-forced
returns-clause-forced c = request-forced

pub returns-clause-request : goal.returns-clause-request
returns-clause-request c = request-settled

pub returns-clause-cut : goal.returns-clause-cut
returns-clause-cut c = cut-settled
