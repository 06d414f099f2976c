use Rattle.std.proofs.Common.{ℕ, ◌≡◌, length, ap, sym, subst, arith, ◌∙◌}
use Rattle.drive_survey.proofs.NextLaws.{if-fault}
use Rattle.zone_states.specs.declared.geometry.Geometry.{Geometry}
use Rattle.std.specs.Prelude.{OnOk}
use Rattle.drive_port.specs.Contents.{contents}
use Rattle.drive_array.specs.ZoneLogs.{drive_logs, zone_tails}
use Rattle.remount.specs.Mount.{IsRepaired, LeavesCleared, LeavesPlanned, PlansRepair}
use Rattle.remount.proofs.BesideLaws.{carried-zones}
use Rattle.remount.proofs.CallLaws.{on-two}
use Rattle.remount.proofs.EmptyLaws.{stays-both}
use Rattle.remount.proofs.KeepLaws.{keeps-mountable-both}
use Rattle.remount.proofs.NotedLaws.{carried-notes}
use Rattle.remount.proofs.StepLaws.{carried-left, cleared-own, emptied-plans, empties, keeps-given, on-ok, untorn-own}
use Rattle.remount.proofs.mounting.carry_out.Goals as goal

pub repair_torn-requires-clause-listed : goal.repair_torn-requires-clause-listed
repair_torn-requires-clause-listed g c =
    let was = c.requires.fits.zones in
    let now = c.in_ok-empty_zones.ensures.fits.zones in
    let zones = ap (λ (x : Geometry). x.zones) c.empty_zones.ensures.stays.geometry in
    let same : length c.empty_zones.new.survey.zones.items ≡ length c.args.survey.now.zones.items = omega (arith, was.count, was.lawful.count, now.count, now.lawful.count, zones) in
    rw same c.requires.listed

pub repair_torn-requires-clause-cleared : goal.repair_torn-requires-clause-cleared
repair_torn-requires-clause-cleared g c clean = cleared-own (g.D.Device.drive c.empty_zones.new.device) c.args.survey.now.given c.empty_zones.new.survey (c.in_ok-empty_zones.ensures.cleared clean)

pub repair_torn-requires-clause-plan : goal.repair_torn-requires-clause-plan
repair_torn-requires-clause-plan g c clean =
    let is = empties _ _ _ c.args.plan.now.half_clean.items c.empty_zones.new.survey (c.in_ok-empty_zones.ensures.cleared clean) (c.in_ok-empty_zones.ensures.left clean) (c.empty_zones.ensures.kept clean) in
    let middle = g.D.Device.drive c.empty_zones.new.device in
    subst (λ (k : ℕ). PlansRepair middle.geometry k (drive_logs middle) (zone_tails (contents middle.zones)) c.args.plan.now.repair) (sym is.known.given_is) (emptied-plans _ _ _ c.args.survey.now _ c.args.plan.now (c.requires.planned (c.empty_zones.ensures.stays.trusted clean)) is)

pub returns-in_err-repair_torn-clause-kept : goal.returns-in_err-repair_torn-clause-kept
returns-in_err-repair_torn-clause-kept g c clean =
    keeps-mountable-both _ _ _ _ (c.empty_zones.ensures.kept (c.repair_torn.ensures.stays.trusted clean)) (keeps-given _ _ _ _ (c.in_ok-empty_zones.ensures.cleared (c.repair_torn.ensures.stays.trusted clean)).known.given_is (c.repair_torn.ensures.kept clean))

pub finish_zones-requires : goal.finish_zones-requires
finish_zones-requires g c =
    let fits = c.in_ok-empty_zones.ensures.fits.zones in
    let count = c.in_ok-repair_torn.ensures.count in
    record { range = rw c.repair_torn.ensures.stays.geometry fits.geometry; long = count.1 ∙ fits.count ∙ fits.lawful.count ∙ ap (λ (x : Geometry). x.zones) (sym c.repair_torn.ensures.stays.geometry); scanned = count.0; untorn = λ clean. untorn-own (g.D.Device.drive c.repair_torn.new.device) c.empty_zones.new.survey.given c.repair_torn.new.survey (c.in_ok-repair_torn.ensures.ok clean) }

pub returns-clause-repaired : goal.returns-clause-repaired
returns-clause-repaired g c clean =
    let same = (c.in_ok-repair_torn.ensures.ok (c.finish_zones.ensures.stays.trusted clean)).known.given_is ∙ (c.in_ok-empty_zones.ensures.cleared (c.repair_torn.ensures.stays.trusted (c.finish_zones.ensures.stays.trusted clean))).known.given_is in
    subst (λ (k : ℕ). OnOk c.finish_zones.result (IsRepaired (g.D.Device.drive c.finish_zones.new.device) k c.finish_zones.new.survey)) same (c.finish_zones.ensures.repaired clean)

pub returns-clause-kept : goal.returns-clause-kept
returns-clause-kept g c clean =
    let first = (c.in_ok-empty_zones.ensures.cleared (c.repair_torn.ensures.stays.trusted (c.finish_zones.ensures.stays.trusted clean))).known.given_is in
    keeps-mountable-both _ _ _ _ (c.empty_zones.ensures.kept (c.repair_torn.ensures.stays.trusted (c.finish_zones.ensures.stays.trusted clean)))
    (keeps-mountable-both _ _ _ _ (keeps-given _ _ _ _ first (c.repair_torn.ensures.kept (c.finish_zones.ensures.stays.trusted clean))) (keeps-given _ _ _ _ ((c.in_ok-repair_torn.ensures.ok (c.finish_zones.ensures.stays.trusted clean)).known.given_is ∙ first) (c.finish_zones.ensures.kept clean)))

pub returns-clause-left : goal.returns-clause-left
returns-clause-left g c clean =
    let is = empties _ _ _ c.args.plan.now.half_clean.items c.empty_zones.new.survey (c.in_ok-empty_zones.ensures.cleared (c.repair_torn.ensures.stays.trusted (c.finish_zones.ensures.stays.trusted clean))) (c.in_ok-empty_zones.ensures.left (c.repair_torn.ensures.stays.trusted (c.finish_zones.ensures.stays.trusted clean))) (c.empty_zones.ensures.kept (c.repair_torn.ensures.stays.trusted (c.finish_zones.ensures.stays.trusted clean))) in
    let old = g.D.Device.drive c.args.device.now in
    let middle = g.D.Device.drive c.empty_zones.new.device in
    let third = g.D.Device.drive c.repair_torn.new.device in
    let new = g.D.Device.drive c.finish_zones.new.device in
    let planned = subst (λ (k : ℕ). LeavesPlanned middle.geometry k (drive_logs middle) c.args.plan.now.repair (drive_logs third)) is.known.given_is (c.in_ok-repair_torn.ensures.left (c.finish_zones.ensures.stays.trusted clean)) in
    on-ok c.finish_zones.result (drive_logs new ≡ drive_logs third) (LeavesCleared c.args.survey.now.given old c.args.plan.now.half_clean.items new)
    (carried-left old middle third new _ _ c.args.plan.now.repair _ is (c.requires.planned (c.empty_zones.ensures.stays.trusted (c.repair_torn.ensures.stays.trusted (c.finish_zones.ensures.stays.trusted clean)))).repair planned) (c.finish_zones.ensures.logs clean)

pub returns-clause-zones : goal.returns-clause-zones
returns-clause-zones g c clean =
    let is = empties _ _ _ c.args.plan.now.half_clean.items c.empty_zones.new.survey (c.in_ok-empty_zones.ensures.cleared (c.repair_torn.ensures.stays.trusted (c.finish_zones.ensures.stays.trusted clean))) (c.in_ok-empty_zones.ensures.left (c.repair_torn.ensures.stays.trusted (c.finish_zones.ensures.stays.trusted clean))) (c.empty_zones.ensures.kept (c.repair_torn.ensures.stays.trusted (c.finish_zones.ensures.stays.trusted clean))) in
    let left = (c.in_ok-empty_zones.ensures.left (c.repair_torn.ensures.stays.trusted (c.finish_zones.ensures.stays.trusted clean))) in
    on-two c.finish_zones.result
    (λ needed logs. carried-zones _ _ _ _ _ _ c.args.plan.now.repair c.empty_zones.new.survey is (c.requires.planned (c.empty_zones.ensures.stays.trusted (c.repair_torn.ensures.stays.trusted (c.finish_zones.ensures.stays.trusted clean)))).repair left.others left.opens (c.in_ok-repair_torn.ensures.beside (c.finish_zones.ensures.stays.trusted clean))
    (c.repair_torn.ensures.kept (c.finish_zones.ensures.stays.trusted clean)).geometry ((c.finish_zones.ensures.kept clean).geometry ∙ (c.repair_torn.ensures.kept (c.finish_zones.ensures.stays.trusted clean)).geometry) logs needed)
    (c.finish_zones.ensures.needed clean) (c.finish_zones.ensures.logs clean)

pub returns-clause-noted : goal.returns-clause-noted
returns-clause-noted g c clean =
    let old = g.D.Device.drive c.args.device.now in
    let middle = g.D.Device.drive c.empty_zones.new.device in
    let third = g.D.Device.drive c.repair_torn.new.device in
    let new = g.D.Device.drive c.finish_zones.new.device in
    on-two c.finish_zones.result
    (λ noted logs. carried-notes old middle third new c.args.plan.now.half_clean.items c.args.survey.now.zones.items c.empty_zones.new.survey.zones.items c.repair_torn.new.survey.zones.items c.finish_zones.new.survey.zones.items
    (c.in_ok-empty_zones.ensures.left (c.repair_torn.ensures.stays.trusted (c.finish_zones.ensures.stays.trusted clean))).logs logs c.in_ok-empty_zones.ensures.noted (c.in_ok-repair_torn.ensures.noted (c.finish_zones.ensures.stays.trusted clean)) noted)
    (c.finish_zones.ensures.noted clean) (c.finish_zones.ensures.logs clean)

pub repair_torn-requires-clause-fits : goal.repair_torn-requires-clause-fits
repair_torn-requires-clause-fits g c = c.in_ok-empty_zones.ensures.fits

pub returns-in_err-repair_torn-clause-stays : goal.returns-in_err-repair_torn-clause-stays
returns-in_err-repair_torn-clause-stays g c = stays-both _ _ _ c.empty_zones.ensures.stays c.repair_torn.ensures.stays

pub returns-clause-stays : goal.returns-clause-stays
returns-clause-stays g c = stays-both _ _ _ c.empty_zones.ensures.stays (stays-both _ _ _ c.repair_torn.ensures.stays c.finish_zones.ensures.stays)

pub returns-in_err-empty_zones-clause-err : goal.returns-in_err-empty_zones-clause-err
returns-in_err-empty_zones-clause-err g c = λ clean. if-fault c.from_residual.result c.in_err-empty_zones.field-0.0 _ c.from_residual.ensures.1 c.in_err-empty_zones.ensures.err

pub returns-in_err-repair_torn-clause-err : goal.returns-in_err-repair_torn-clause-err
returns-in_err-repair_torn-clause-err g c = λ clean. if-fault c.from_residual-in_err-repair_torn.result c.in_err-repair_torn.field-0.0 _ c.from_residual-in_err-repair_torn.ensures.1 (c.in_err-repair_torn.ensures.err clean)
