use Rattle.std.proofs.Common.{inr, refl, sym, ◌∙◌}
use Rattle.std.proofs.lemmas.Bool.{eq-eqb, eqb-true}
use Rattle.drive_survey.proofs.ClearLaws.{cleared-spare, no-spare}
use Rattle.drive_survey.proofs.clearing.clear_zones.Goals as goal

pub returns-then-not-is_empty-clause-spare : goal.returns-then-not-is_empty-clause-spare
returns-then-not-is_empty-clause-spare g c clean =
    cleared-spare (g.D.Device.drive c.args.device.now) c.args.survey.now.given c.in_ok-resets.resets.items
    (λ none. let bad = sym c.if-not-is_empty.true ∙ c.is_empty.ensures ∙ eq-eqb _ 0 (c.in_ok-resets.resets.ok.0 ∙ none) in absurd (cc)) (c.in_ok-resets.ensures.clearing clean)

pub returns-clause-err : goal.returns-clause-err
returns-clause-err g c clean = inr (inr (
  refl,
  no-spare (g.D.Device.drive c.args.device.now) (g.D.Device.drive c.clear_moved.new.device) c.args.survey.now.given c.in_ok-resets.resets.items c.clear_moved.new.survey
      (sym c.in_ok-resets.resets.ok.0 ∙ eqb-true _ 0 (sym c.is_empty.ensures ∙ c.if-not-is_empty.false)) (c.in_ok-resets.ensures.clearing clean) (c.in_ok-resets.ensures.known clean)
      (rw (c.deref.ensures.value, c.if-has_vacant.false) at c.has_vacant.ensures),
))
