use Rattle.zone_translator.proofs.BackLaws.{other-replaced}
use Rattle.zone_translator.proofs.laws.write_keeps_others.Goals as goal

pub returns : goal.returns
returns c = other-replaced
