use Rattle.write_plan.specs.Rows.{AreRows}
use Rattle.write_plan.proofs.aims.rows_keeping.Given as goal

abbrev pub invariant-loop-write : goal.invariant-loop-write
invariant-loop-write l = AreRows l.geometry l.rows.items
