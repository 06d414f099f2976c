use Rattle.std.proofs.Common.{◌≡◌, max, drop}
use Rattle.drive_survey.specs.Heads.{greatest_sequence, head_sequences}
use Rattle.drive_survey.proofs.sequences.greatest_of.Given as goal

abbrev pub invariant-loop-head : goal.invariant-loop-head
invariant-loop-head l = max l.greatest (greatest_sequence (head_sequences (drop l.head-index l.heads))) ≡ max l.fn.greatest (greatest_sequence (head_sequences l.heads))
