use Rattle.std.proofs.Common.{◌≡◌, drop}
use Rattle.drive_array.specs.Sizes.{larger}
use Rattle.drive_survey.specs.Scan.{heads_in}
use Rattle.drive_survey.specs.Survey.{greatest_in}
use Rattle.drive_inspection.proofs.holding.size_said.Given as goal

abbrev pub invariant-loop-zone : goal.invariant-loop-zone
invariant-loop-zone l = larger l.size (greatest_in (heads_in (drop l.zone-index l.scanned))) ≡ greatest_in (heads_in l.scanned)
