use Rattle.std.proofs.Common.{arith}
use Rattle.std.proofs.lemmas.List.{length-map}
use Rattle.yardsticks.specs.Zones.{held_log}
use Rattle.yardsticks.proofs.spare.lowest_half_clean.Goals as goal

pub returns-clause-none : goal.returns-clause-none
returns-clause-none c = λ zone lt half. c.loop-zone.invariant zone (omega (arith, lt, c.loop-zone-test.false, length-map c.args.logs.now (λ log. held_log log.items))) half
