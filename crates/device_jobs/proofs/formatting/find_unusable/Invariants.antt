use Rattle.std.proofs.Common.{◌≡◌, ◌<◌, ℕ, false, Some}
use Rattle.std.specs.Prelude.{slice_get}
use Rattle.drive_survey.specs.declared.reported.ReportedZone.{ReportedZone}
use Rattle.device_jobs.specs.Formats.{is_unusable}
use Rattle.device_jobs.proofs.formatting.find_unusable.Given as goal

abbrev pub invariant-loop-number : goal.invariant-loop-number
invariant-loop-number l = (other : ℕ) (reported : ReportedZone) → other < l.number → slice_get l.zones other ≡ Some reported → is_unusable reported ≡ false
