use Rattle.std.proofs.Common.{refl, sym, ap, ◌∙◌, arith}
use Rattle.std.proofs.lemmas.List.{drop_all}
use Rattle.drive_survey.specs.Heads.{highest_of}
use Rattle.drive_survey.proofs.EntryLaws.{highest-step}
use Rattle.drive_survey.proofs.heads.highest_of.Goals as goal

-- src/heads.rt:89:5
pub loop-i-init : goal.loop-i-init
loop-i-init c = refl

-- src/heads.rt:89:5
pub loop-i-preserved : goal.loop-i-preserved
loop-i-preserved c = highest-step c.args.header.now.entries c.loop-i.i c.entry.result _ _ _ c.entry.ensures c.max-highest.ensures c.loop-i.invariant

-- src/heads.rt:85:1
pub returns : goal.returns
returns c = ap (λ es. highest_of c.loop-i.highest es) (sym (drop_all c.loop-i.i c.args.header.now.entries (omega (arith, c.loop-i-test.false, c.count-i-end.ensures)))) ∙ c.loop-i.invariant
