use Rattle.std.proofs.Common.{arith, ℕ, false, set, refl, sym, ap, ◌∙◌}
use Rattle.drive_survey.specs.declared.scan.ScannedZone.{ScannedZone}
use Rattle.drive_survey.specs.Heads.{HeadsView}
use Rattle.remount.specs.Moving.{usage_with}
use Rattle.remount.proofs.NoteLaws.{empty_report, noted-knows, noted-vacant}
use Rattle.remount.proofs.NotedLaws.{repair-notes}
use Rattle.remount.proofs.repair.settle.note_repair.Goals as goal

pub returns-clause-known : goal.returns-clause-known
returns-clause-known c =
    λ n start new made some capacity heads known e.
    noted-knows n start new c.args.plan.now made c.args.heads c.filled_zone-written.result c.args.survey.now _ e heads
    (record {
      usage = c.filled_zone-written.ensures.usage (omega (arith, some, c.blocks-2.ensures)) ∙ ap (λ (cap : ℕ). usage_with cap c.blocks-2.result) (sym capacity) ∙ ap (usage_with start.geometry.capacity) c.blocks-2.ensures;
      blocks = c.filled_zone-written.ensures.blocks ∙ c.blocks-2.ensures;
      opened = c.filled_zone-written.ensures.opened;
    })
    known refl
    (ap (λ (h : HeadsView). let one : ScannedZone = record { heads = c.args.heads; is_torn = false } in let two : ScannedZone = record { heads = h; is_torn = false } in set (set c.args.survey.now.scanned.items c.args.plan.now.into one) c.args.plan.now.torn two) c.new.ensures) refl refl

pub returns-clause-vacant : goal.returns-clause-vacant
returns-clause-vacant c =
    λ n start new made known vacant e. noted-vacant n start new c.args.plan.now made c.filled_zone-written.result c.args.survey.now.zones.items _ e vacant known.zones.count refl

pub returns-clause-noted : goal.returns-clause-noted
returns-clause-noted c =
    repair-notes c.args.survey.now.zones.items _ c.args.plan.now.into c.args.plan.now.torn c.filled_zone-written.result empty_report refl refl
