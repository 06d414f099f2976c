use Rattle.remount.proofs.ToEmptyLaws.{AreFound}
use Rattle.remount.proofs.plan.zones_to_empty.Given as goal

abbrev pub invariant-loop-zone : goal.invariant-loop-zone
invariant-loop-zone l = AreFound l.survey l.zones.items l.zone
