use Rattle.std.proofs.Common.{◌≡◌, ◌≤◌, ◌+◌, drop}
use Rattle.std.specs.List.{count_by}
use Rattle.drive_survey.specs.Scan.{heads_in}
use Rattle.drive_survey.specs.SizeCounts.{says_size}
use Rattle.drive_survey.proofs.clearing.sizes.count_saying.Given as goal

abbrev pub invariant-loop-zone : goal.invariant-loop-zone
invariant-loop-zone l = record {
  counted : l.count + count_by (says_size l.size) (heads_in (drop l.zone-index l.scanned)) ≡ count_by (says_size l.size) (heads_in l.scanned);
  small : l.count ≤ l.zone-index;
}
