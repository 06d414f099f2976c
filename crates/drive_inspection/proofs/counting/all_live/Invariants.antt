use Rattle.drive_inspection.proofs.CountLaws.{LiveBelow}
use Rattle.drive_inspection.proofs.counting.all_live.Given as goal

abbrev pub invariant-loop-block : goal.invariant-loop-block
invariant-loop-block l = LiveBelow l.tables.map.places l.live l.block
