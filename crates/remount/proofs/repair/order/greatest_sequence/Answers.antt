use Rattle.std.proofs.Common.{List, ap, ◌∙◌}
use Rattle.drive_survey.specs.Heads.{HeadsView, greatest_sequence, sequences_in}
use Rattle.remount.proofs.TornPlanLaws.{sequences-kept}
use Rattle.remount.proofs.repair.order.greatest_sequence.Goals as goal

pub returns : goal.returns
returns c = λ logs heads. c.greatest_sequence.ensures ∙ ap (λ (hs : List HeadsView). greatest_sequence (sequences_in hs)) heads ∙ ap greatest_sequence (sequences-kept logs)
