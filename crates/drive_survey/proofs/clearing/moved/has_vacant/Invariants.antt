use Rattle.std.proofs.Common.{◌≡◌, ℕ, ◌<◌, List, []}
use Rattle.batch_log.specs.Log.{Batch}
use Rattle.drive_array.specs.ZoneLogs.{log_at}
use Rattle.drive_survey.specs.Clearing.{AreOf}
use Rattle.drive_survey.proofs.clearing.moved.has_vacant.Given as goal

abbrev pub invariant-loop-found : goal.invariant-loop-found
invariant-loop-found l = (logs : List (List Batch)) → AreOf l.scanned logs → (zone : ℕ) → zone < l.found-index → log_at logs zone ≡ [] → ⊥
