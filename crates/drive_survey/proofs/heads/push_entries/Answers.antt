use Rattle.std.proofs.Common.{◌++◌, [], ◌∷◌, map, refl, sym, ap, ◌∙◌, append-nil, arith}
use Rattle.std.proofs.lemmas.List.{drop_all}
use Rattle.drive_survey.specs.Heads.{kept_entry}
use Rattle.drive_survey.proofs.EntryLaws.{kept-step}
use Rattle.drive_survey.proofs.heads.push_entries.Goals as goal

-- src/heads.rt:78:5
pub loop-i-init : goal.loop-i-init
loop-i-init c = refl

-- src/heads.rt:78:5
pub loop-i-preserved : goal.loop-i-preserved
loop-i-preserved c = kept-step c.args.header.now.entries c.loop-i.i c.entry.result _ _ _ c.entry.ensures (c.in_ok-push.ensures.items ∙ ap (λ n. c.loop-i.entries.items ++ n ∷ []) c.kept_entry.ensures) c.loop-i.invariant

-- src/heads.rt:75:1
pub returns : goal.returns
returns c = sym (append-nil _) ∙ ap (λ es. c.loop-i.entries.items ++ map kept_entry es) (sym (drop_all c.loop-i.i c.args.header.now.entries (omega (arith, c.loop-i-test.false, c.count-i-end.ensures)))) ∙ c.loop-i.invariant
