use Rattle.yardsticks.specs.Zones.{NoneTorn, held_logs}
use Rattle.yardsticks.proofs.repair.first_torn.Given as goal

abbrev pub invariant-loop-zone : goal.invariant-loop-zone
invariant-loop-zone l = NoneTorn (held_logs l.logs) l.tails l.from l.zone
