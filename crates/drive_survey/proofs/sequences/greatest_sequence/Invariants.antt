use Rattle.std.proofs.Common.{◌≡◌, max, drop}
use Rattle.drive_survey.specs.Heads.{greatest_sequence, sequences_in}
use Rattle.drive_survey.specs.Scan.{heads_in}
use Rattle.drive_survey.proofs.sequences.greatest_sequence.Given as goal

abbrev pub invariant-loop-zone : goal.invariant-loop-zone
invariant-loop-zone l = max l.greatest (greatest_sequence (sequences_in (heads_in (drop l.zone-index l.scanned)))) ≡ greatest_sequence (sequences_in (heads_in l.scanned))
