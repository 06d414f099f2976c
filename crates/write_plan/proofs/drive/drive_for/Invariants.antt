use Rattle.write_plan.proofs.DriveLaws.{NoneHold}
use Rattle.write_plan.proofs.drive.drive_for.Given as goal

abbrev pub invariant-loop-capacity : goal.invariant-loop-capacity
invariant-loop-capacity l = NoneHold l.blocks l.capacity-index
