use Rattle.zone_translator.proofs.OrderLaws.{list-is-its-writes}
use Rattle.zone_translator.proofs.laws.list_is_its_writes.Goals as goal

pub returns : goal.returns
returns c = list-is-its-writes
