use Rattle.std.proofs.Common.{arith}
use Rattle.std.proofs.lemmas.List.{length-drop}
use Rattle.zone_choice.proofs.batch.BatchBuilder.make_room.Goals as goal

pub returns-clause-ok : goal.returns-clause-ok
returns-clause-ok c = omega (arith, length-drop 576 c.resize.new.self.items, c.resize.new.self.ok.0, c.in_ok-resize.ensures.len)
