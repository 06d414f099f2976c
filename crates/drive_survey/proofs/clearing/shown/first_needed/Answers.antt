use Rattle.std.proofs.Common.{true, refl, ap, ◌∙◌, arith}
use Rattle.drive_survey.specs.BlockRecords.{own_list}
use Rattle.drive_survey.proofs.ReadLaws.{keeps-both, keeps-none}
use Rattle.drive_survey.proofs.SurveyLaws.{known-kept}
use Rattle.drive_survey.proofs.ShowLaws.{needed-here, no-rivals-told, none-needed, rivals-told, same-first, same-more}
use Rattle.drive_survey.proofs.clearing.shown.first_needed.Goals as goal

pub returns-in_default-clause-kept : goal.returns-in_default-clause-kept
returns-in_default-clause-kept g c = keeps-none _ c.requires.zones.lawful

pub loop-found-init : goal.loop-found-init
loop-found-init g c = (keeps-none _ c.requires.zones.lawful, λ clean. same-first (g.D.Device.drive c.args.device.now) c.args.table.now c.args.zone c.deref-found-items.result.now, omega arith)

pub loop-found-preserved-in_default-rivals_of : goal.loop-found-preserved-in_default-rivals_of
loop-found-preserved-in_default-rivals_of g c = (
  c.loop-found.invariant.0,
  λ clean. same-more (g.D.Device.drive c.args.device.now) (g.D.Device.drive c.loop-found.device) c.args.table.now c.args.zone c.deref-found-items.result.now c.loop-found.found-index _ _ true c.loop-found.invariant.0 c.loop-found-test.true (omega arith) refl
      (no-rivals-told (g.D.Device.drive c.loop-found.device) c.args.table.now c.args.zone _ (rw c.in_default-rivals_of.is at c.rivals_of.ensures.none)) (c.loop-found.invariant.1 clean),
  omega (arith, c.loop-found.invariant.2),
)

pub show_same-requires : goal.show_same-requires
show_same-requires g c = record { zones = known-kept _ _ c.args.zones.now c.loop-found.invariant.0 c.requires.zones }

pub returns-in_err-show_same-clause-kept : goal.returns-in_err-show_same-clause-kept
returns-in_err-show_same-clause-kept g c = keeps-both _ _ _ c.loop-found.invariant.0 c.show_same.ensures.kept

pub returns-then-not-branch-clause-ok : goal.returns-then-not-branch-clause-ok
returns-then-not-branch-clause-ok g c clean =
    needed-here (g.D.Device.drive c.args.device.now) (g.D.Device.drive c.loop-found.device) c.args.table.now c.args.zone c.deref-found-items.result.now c.loop-found.found-index _ c.in_ok-show_same.field-0 c.loop-found.invariant.0
    (c.deref-found-items.ensures.value ∙ ap own_list c.in-Some.ensures.value) c.loop-found-test.true c.if-not-branch.true
    (rivals-told (g.D.Device.drive c.loop-found.device) c.args.table.now c.args.zone _ c.in-Some-rivals_of.rivals c.in_ok-show_same.field-0 (rw c.in-Some-rivals_of.is at c.rivals_of.ensures.some) (c.in_ok-show_same.ensures.ok clean))
    (c.loop-found.invariant.1 (c.show_same.ensures.kept.trusted clean))

pub returns-then-not-branch-clause-kept : goal.returns-then-not-branch-clause-kept
returns-then-not-branch-clause-kept g c = keeps-both _ _ _ c.loop-found.invariant.0 c.show_same.ensures.kept

pub loop-found-preserved : goal.loop-found-preserved
loop-found-preserved g c = (
  keeps-both _ _ _ c.loop-found.invariant.0 c.show_same.ensures.kept,
  λ clean. same-more (g.D.Device.drive c.args.device.now) (g.D.Device.drive c.loop-found.device) c.args.table.now c.args.zone c.deref-found-items.result.now c.loop-found.found-index _ _ c.in_ok-show_same.field-0 c.loop-found.invariant.0 c.loop-found-test.true (omega arith) c.if-not-branch.false
      (rivals-told (g.D.Device.drive c.loop-found.device) c.args.table.now c.args.zone _ c.in-Some-rivals_of.rivals c.in_ok-show_same.field-0 (rw c.in-Some-rivals_of.is at c.rivals_of.ensures.some) (c.in_ok-show_same.ensures.ok clean)) (c.loop-found.invariant.1 (c.show_same.ensures.kept.trusted clean)),
  omega (arith, c.loop-found.invariant.2, c.show_same.ensures.completed),
)

pub returns-clause-ok : goal.returns-clause-ok
returns-clause-ok g c clean =
    none-needed (g.D.Device.drive c.args.device.now) c.args.table.now c.args.zone c.deref-found-items.result.now c.loop-found.found-index (c.deref-found-items.ensures.value ∙ ap own_list c.in-Some.ensures.value) c.loop-found-test.false (c.loop-found.invariant.1 clean)
