use Rattle.std.proofs.Common.{ℕ, ◌<◌}
use Rattle.drive_survey.specs.Scan.{heads_in}
use Rattle.drive_survey.specs.SizeCounts.{IsSized}
use Rattle.drive_survey.proofs.clearing.sizes.lowest_sized.Given as goal

abbrev pub invariant-loop-number : goal.invariant-loop-number
invariant-loop-number l = (zone : ℕ) → zone < l.number → IsSized (heads_in l.scanned) zone → ⊥
