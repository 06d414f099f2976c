use Rattle.disk_calls.proofs.HoleLaws.{hole-zeros}
use Rattle.disk_calls.proofs.laws.holes_are_zeros.Goals as goal

pub returns : goal.returns
returns c = hole-zeros
