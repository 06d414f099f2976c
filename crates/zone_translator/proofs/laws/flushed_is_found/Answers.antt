use Rattle.zone_translator.proofs.LossLaws.{loss-is-found}
use Rattle.zone_translator.proofs.laws.flushed_is_found.Goals as goal

pub returns : goal.returns
returns c = loss-is-found
