use Rattle.std.proofs.Common.{◌≡◌, take, false}
use Rattle.std.specs.List.{list_any}
use Rattle.zone_choice.specs.Tables.{is_lost_in}
use Rattle.zone_choice.proofs.tables.Tables.is_left_out.Given as goal

abbrev pub invariant-loop-lost : goal.invariant-loop-lost
invariant-loop-lost l = list_any (is_lost_in l.self.map l.zone) (take l.lost-index l.lost-items) ≡ false
