use Rattle.std.proofs.Common.{List, ℕ, sym, subst}
use Rattle.drive_array.specs.ZoneLogs.{drive_logs}
use Rattle.remount.specs.Resets.{MayReset, ResetsAll}
use Rattle.remount.proofs.KeepLaws.{keeps-mountable-both}
use Rattle.remount.proofs.EmptyLaws.{CanEmpty, if-ok, may-clear, resets-count, resets-fits, stays-both, vacant-may}
use Rattle.remount.proofs.NotedLaws.{all-notes}
use Rattle.remount.proofs.StepLaws.{keeps-given, leaves-cleared, leaves-emptied}
use Rattle.remount.proofs.empty.empty_zones.Goals as goal

pub reset_zones-requires-clause-may : goal.reset_zones-requires-clause-may
reset_zones-requires-clause-may g c clean =
    let old = g.D.Device.drive c.args.device.now in
    subst (λ (zs : List ℕ). MayReset old.geometry.block c.args.survey.now.given (drive_logs old) zs) (sym c.deref.ensures.value)
    (vacant-may _ c.args.survey.now.given (drive_logs old) c.args.plan.now.vacant.items (c.requires.planned clean).vacant.vacant)

pub reset_zones-requires-2-clause-may : goal.reset_zones-requires-2-clause-may
reset_zones-requires-2-clause-may g c clean =
    let is = c.requires.planned (c.reset_zones.ensures.stays.trusted clean) in
    let old = g.D.Device.drive c.args.device.now in
    let middle = g.D.Device.drive c.reset_zones.new.device in
    let before = c.args.survey.now in
    let survey = c.reset_zones.new.survey in
    let n = before.given in
    let plan = c.args.plan.now in
    let vacant = plan.vacant.items in
    let half_clean = plan.half_clean.items in
    let can : CanEmpty old n before vacant half_clean = record { known = is.known; to_empty = is.vacant; clearing = is.clearing } in
    let one : ResetsAll old middle before survey vacant = subst (λ (zs : List ℕ). ResetsAll old middle before survey zs) c.deref.ensures.value c.in_ok-reset_zones.ensures.ok in
    subst (λ (zs : List ℕ). MayReset middle.geometry.block survey.given (drive_logs middle) zs) (sym c.deref-2.ensures.value)
    (subst (λ (k : ℕ). MayReset middle.geometry.block k (drive_logs middle) half_clean) (sym one.given) (may-clear old middle before survey n vacant half_clean can one))

pub returns-clause-kept : goal.returns-clause-kept
returns-clause-kept g c clean = keeps-mountable-both _ _ _ _ (c.reset_zones.ensures.kept (c.reset_zones-2.ensures.stays.trusted clean)) (keeps-given _ _ _ _ c.in_ok-reset_zones.ensures.ok.given (c.reset_zones-2.ensures.kept clean))

pub returns-clause-cleared : goal.returns-clause-cleared
returns-clause-cleared g c clean =
    let middle = c.reset_zones-2.ensures.stays.trusted clean in
    let is = c.requires.planned (c.reset_zones.ensures.stays.trusted middle) in
    if-ok c.reset_zones-2.result
    (λ done. leaves-cleared _ _ _ c.args.survey.now c.reset_zones.new.survey c.reset_zones-2.new.survey c.args.plan.now _ _ is c.deref.ensures.value c.in_ok-reset_zones.ensures.ok (c.reset_zones.ensures.kept middle) c.deref-2.ensures.value done (c.reset_zones-2.ensures.kept clean))
    c.reset_zones-2.ensures.ok

pub returns-clause-left : goal.returns-clause-left
returns-clause-left g c clean =
    let is = c.requires.planned (c.reset_zones.ensures.stays.trusted (c.reset_zones-2.ensures.stays.trusted clean)) in
    if-ok c.reset_zones-2.result
    (λ done. leaves-emptied _ _ _ c.args.survey.now c.reset_zones.new.survey c.reset_zones-2.new.survey c.args.plan.now _ _ is c.deref.ensures.value c.in_ok-reset_zones.ensures.ok c.deref-2.ensures.value done)
    c.reset_zones-2.ensures.ok

pub returns-clause-noted : goal.returns-clause-noted
returns-clause-noted g c =
    let old = g.D.Device.drive c.args.device.now in
    let middle = g.D.Device.drive c.reset_zones.new.device in
    let new = g.D.Device.drive c.reset_zones-2.new.device in
    let before = c.args.survey.now in
    let survey = c.reset_zones.new.survey in
    let after = c.reset_zones-2.new.survey in
    let one = c.in_ok-reset_zones.ensures.ok in
    if-ok c.reset_zones-2.result
    (λ two zone noted. all-notes before.zones.items survey.zones.items c.deref.result.now one.reported zone (all-notes survey.zones.items after.zones.items c.deref-2.result.now two.reported zone noted))
    c.reset_zones-2.ensures.ok

pub reset_zones-requires-clause-inside : goal.reset_zones-requires-clause-inside
reset_zones-requires-clause-inside g c = rw c.deref.ensures.value c.requires.vacant

pub reset_zones-requires-2-clause-inside : goal.reset_zones-requires-2-clause-inside
reset_zones-requires-2-clause-inside g c = rw (c.deref-2.ensures.value, resets-count _ _ _ _ _ c.in_ok-reset_zones.ensures.ok) c.requires.half_clean

pub reset_zones-requires-2-clause-zones : goal.reset_zones-requires-2-clause-zones
reset_zones-requires-2-clause-zones g c = c.in_ok-reset_zones.ensures.ok.known

pub reset_zones-requires-2-clause-scanned : goal.reset_zones-requires-2-clause-scanned
reset_zones-requires-2-clause-scanned g c = (resets-fits _ _ _ _ _ c.in_ok-reset_zones.ensures.ok c.requires.fits.scanned).scanned

pub returns-clause-fits : goal.returns-clause-fits
returns-clause-fits g c =
    if-ok c.reset_zones-2.result (λ done. resets-fits _ _ _ _ _ done (resets-fits _ _ _ _ _ c.in_ok-reset_zones.ensures.ok c.requires.fits.scanned).scanned) c.reset_zones-2.ensures.ok

pub returns-clause-stays : goal.returns-clause-stays
returns-clause-stays g c = stays-both _ _ _ c.reset_zones.ensures.stays c.reset_zones-2.ensures.stays
