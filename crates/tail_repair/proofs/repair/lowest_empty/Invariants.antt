use Rattle.std.proofs.Common.{◌≡◌, ◌≢◌, ◌<◌, ℕ, false, Some}
use Rattle.std.specs.Prelude.{slice_get}
use Rattle.drive_port.specs.Contents.{usage_of}
use Rattle.drive_survey.specs.declared.reported.ReportedZone.{ReportedZone}
use Rattle.tail_repair.specs.Repair.{is_empty}
use Rattle.tail_repair.proofs.repair.lowest_empty.Given as goal

abbrev pub invariant-loop-number : goal.invariant-loop-number
invariant-loop-number l = (zone : ℕ) (reported : ReportedZone) → zone < l.number → zone ≢ l.beside → slice_get l.zones zone ≡ Some reported → is_empty (usage_of reported.state) ≡ false
