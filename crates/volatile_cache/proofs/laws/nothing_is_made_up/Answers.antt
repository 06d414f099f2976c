use Rattle.volatile_cache.proofs.CutLaws.{nothing-made_up}
use Rattle.volatile_cache.proofs.laws.nothing_is_made_up.Goals as goal

pub returns : goal.returns
returns c = nothing-made_up
