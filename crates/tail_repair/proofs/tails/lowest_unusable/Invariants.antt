use Rattle.std.proofs.Common.{◌≡◌, ◌<◌, ℕ, true, Some}
use Rattle.std.specs.Prelude.{slice_get}
use Rattle.drive_port.specs.Contents.{is_usable, usage_of}
use Rattle.drive_survey.specs.declared.reported.ReportedZone.{ReportedZone}
use Rattle.tail_repair.proofs.tails.lowest_unusable.Given as goal

abbrev pub invariant-loop-number : goal.invariant-loop-number
invariant-loop-number l = (other : ℕ) (reported : ReportedZone) → other < l.number → slice_get l.zones other ≡ Some reported → is_usable (usage_of reported.state) ≡ true
