use Rattle.std.proofs.Common.{ℕ, ◌<◌, List}
use Rattle.batch_log.specs.Log.{Batch}
use Rattle.drive_survey.specs.Clearing.{AreOf}
use Rattle.drive_array.specs.Repairing.{IsMoved}
use Rattle.drive_survey.proofs.clearing.moved.has_moved.Given as goal

abbrev pub invariant-loop-zone : goal.invariant-loop-zone
invariant-loop-zone l = (logs : List (List Batch)) → AreOf l.scanned logs → (zone : ℕ) → zone < l.zone → IsMoved logs zone → ⊥
