use Rattle.std.proofs.Common.{◌∙◌, sym}
use Rattle.drive_survey.proofs.ReadLaws.{keeps-none}
use Rattle.drive_survey.proofs.ZeroLaws.{zero-tail}
use Rattle.drive_survey.proofs.scan.end_at.Goals as goal

pub returns-then-not-is_full-clause-kept : goal.returns-then-not-is_full-clause-kept
returns-then-not-is_full-clause-kept g c = keeps-none _ c.requires.zone.lawful

pub returns-then-not-is_zero-clause-kept : goal.returns-then-not-is_zero-clause-kept
returns-then-not-is_zero-clause-kept g c = keeps-none _ c.requires.zone.lawful

pub returns-then-branch-clause-ok : goal.returns-then-branch-clause-ok
returns-then-branch-clause-ok g c = (
  sym c.is_full.ensures ∙ c.if-not-is_full.false,
  λ clean. zero-tail (g.D.Device.drive c.args.device.now) c.args.zone.number c.args.offset c.args.zone.reported c.deref.result.now c.requires.zone c.requires.in_range (c.deref.ensures.value ∙ c.requires.block.0 (c.is_zero_from.ensures.kept.trusted clean)) (sym c.is_full.ensures ∙ c.if-not-is_full.false) (sym c.is_zero.ensures ∙ c.if-not-is_zero.false) (sym (c.in_ok-is_zero_from.ensures.ok clean) ∙ c.if-branch.true),
)
