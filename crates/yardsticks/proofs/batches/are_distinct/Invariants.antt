use Rattle.std.proofs.Common.{◌↔◌, map, drop, eqb}
use Rattle.std.specs.List.{IsDistinct}
use Rattle.yardsticks.proofs.batches.are_distinct.Given as goal

abbrev pub invariant-loop-i : goal.invariant-loop-i
invariant-loop-i l = IsDistinct eqb (map (λ e. e.block) l.entries) ↔ IsDistinct eqb (map (λ e. e.block) (drop l.i l.entries))
