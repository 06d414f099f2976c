use Rattle.std.proofs.Common.{max, ap, ◌∙◌}
use Rattle.drive_survey.specs.declared.heads.Head.{Head}
use Rattle.std.proofs.Common.{List}
use Rattle.drive_survey.specs.Heads.{greatest_sequence, head_sequences}
use Rattle.drive_survey.proofs.SequenceLaws.{greatest-step}
use Rattle.drive_survey.proofs.sequences.greatest_sequence.Goals as goal

pub loop-zone-preserved : goal.loop-zone-preserved
loop-zone-preserved c =
    greatest-step c.args.scanned.now c.loop-zone.zone-index c.loop-zone.greatest c.greatest_of-greatest.result _ c.zone-item.result c.loop-zone-test.true c.zone-item.is
    (c.greatest_of-greatest.ensures ∙ ap (λ (hs : List Head). max c.loop-zone.greatest (greatest_sequence (head_sequences hs))) c.heads.ensures) c.loop-zone.invariant
