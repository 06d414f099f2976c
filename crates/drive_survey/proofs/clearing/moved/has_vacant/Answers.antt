use Rattle.std.proofs.Common.{sym, ◌∙◌}
use Rattle.std.proofs.lemmas.Bool.{eqb-true, eq-eqb}
use Rattle.drive_survey.proofs.MovedLaws.{none-vacant, not-vacant, vacant-here}
use Rattle.drive_survey.proofs.clearing.moved.has_vacant.Goals as goal

pub returns-then-is_empty : goal.returns-then-is_empty
returns-then-is_empty c = λ logs are. vacant-here c.args.scanned.now logs c.loop-found.found-index c.found-item.result c.heads.result.now are c.loop-found-test.true c.found-item.is c.heads.ensures (eqb-true _ _ (sym c.if-is_empty.ensures))

pub loop-found-preserved : goal.loop-found-preserved
loop-found-preserved c = λ logs are zone. not-vacant c.args.scanned.now logs zone c.loop-found.found-index c.found-item.result c.heads.result.now are c.loop-found-test.true c.found-item.is c.heads.ensures (λ e. absurd (let bad = c.if-is_empty.ensures ∙ eq-eqb _ _ e in cc)) (c.loop-found.invariant logs are)

pub returns : goal.returns
returns c = λ logs are. none-vacant c.args.scanned.now logs c.loop-found.found-index are c.loop-found-test.false (c.loop-found.invariant logs are)
