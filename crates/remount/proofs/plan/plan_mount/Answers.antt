use Rattle.std.proofs.Common.{◌≡◌, sym, subst, ap, ◌∙◌, arith, length}
use Rattle.std.specs.Prelude.{Vec}
use Rattle.std.specs.declared.alloc.Global.{Global}
use Rattle.zone_states.specs.declared.geometry.Geometry.{Geometry}
use Rattle.zone_states.specs.Geometry.{IsInRange}
use Rattle.drive_survey.specs.declared.reported.ReportedZone.{ReportedZone}
use Rattle.drive_survey.proofs.ReadLaws.{keeps-none}
use Rattle.drive_survey.proofs.NextLaws.{if-fault}
use Rattle.drive_survey.proofs.SurveyLaws.{known-kept}
use Rattle.remount.proofs.StepLaws.{TellsNone, TellsPlan, planned, plans-of, repair-refused, to-empty}
use Rattle.remount.proofs.plan.plan_mount.Goals as goal

pub returns-in_err-vacant-clause-kept : goal.returns-in_err-vacant-clause-kept
returns-in_err-vacant-clause-kept g c = keeps-none _ c.requires.fits.zones.lawful

pub plan_repair-requires : goal.plan_repair-requires
plan_repair-requires g c =
    let known = c.requires.fits.zones in
    record {
      range = subst IsInRange (sym c.geometry-geometry.ensures.value) known.geometry;
      long = omega (arith, c.in_ok-half_clean.ensures.scanned, c.requires.fits.scanned, known.count, known.lawful.count, ap (λ (x : Geometry). x.zones) c.geometry-geometry.ensures.value);
    }

pub returns-in_err-repair-clause-err : goal.returns-in_err-repair-clause-err
returns-in_err-repair-clause-err g c clean =
    let known = c.requires.known (c.clear_zones.ensures.kept.trusted clean) in
    if-fault c.from_residual-in_err-repair.result c.in_err-repair.field-0.0 _ c.from_residual-in_err-repair.ensures.1
    (repair-refused (g.D.Device.drive c.args.device.now) (g.D.Device.drive c.clear_zones.new.device) c.args.survey.now.given c.in_ok-half_clean.half_clean.items c.clear_zones.new.survey c.in_err-repair.field-0.0 c.geometry-geometry.result
    c.geometry-geometry.ensures.value c.clear_zones.ensures.kept known.sound (c.in_ok-half_clean.ensures.spare clean) (c.in_ok-half_clean.ensures.clearing clean) (c.in_ok-half_clean.ensures.known clean)
    (subst (TellsNone c.geometry-geometry.result c.clear_zones.new.survey c.in_err-repair.field-0.0) (c.in_ok-half_clean.ensures.known clean).given_is c.in_err-repair.ensures.err))

pub returns-clause-ok : goal.returns-clause-ok
returns-clause-ok g c clean =
    let old = g.D.Device.drive c.args.device.now in
    let new = g.D.Device.drive c.clear_zones.new.device in
    let was = c.requires.known (c.clear_zones.ensures.kept.trusted clean) in
    let known = c.in_ok-half_clean.ensures.known clean in
    let clearing = c.in_ok-half_clean.ensures.clearing clean in
    planned old new c.args.survey.now.given c.args.survey.now c.clear_zones.new.survey _ c.requires.can was c.clear_zones.ensures.kept (c.in_ok-half_clean.ensures.spare clean)
    (to-empty old c.args.survey.now.given c.args.survey.now _ was c.in_ok-vacant.ensures.right) c.clear_zones.ensures.zones clearing known
    (plans-of old new c.args.survey.now.given c.in_ok-half_clean.half_clean.items c.clear_zones.new.survey c.in_ok-repair.repair c.geometry-geometry.result c.geometry-geometry.ensures.value c.clear_zones.ensures.kept known
    (subst (TellsPlan c.geometry-geometry.result c.clear_zones.new.survey c.in_ok-repair.repair) known.given_is c.in_ok-repair.ensures.ok))

pub returns-clause-fits : goal.returns-clause-fits
returns-clause-fits g c = record {
  zones = rw c.clear_zones.ensures.zones (known-kept (g.D.Device.drive c.args.device.now) (g.D.Device.drive c.clear_zones.new.device) c.args.survey.now.zones.items c.clear_zones.ensures.kept c.requires.fits.zones);
  scanned = c.in_ok-half_clean.ensures.scanned ∙ c.requires.fits.scanned ∙ ap (λ (zs : Vec ReportedZone Global). length zs.items) (sym c.clear_zones.ensures.zones);
}

pub returns-clause-inside : goal.returns-clause-inside
returns-clause-inside g c = (c.in_ok-vacant.ensures.inside, c.in_ok-half_clean.ensures.inside)

pub returns-clause-listed : goal.returns-clause-listed
returns-clause-listed g c =
    let same : length c.clear_zones.new.survey.scanned.items ≡ length c.clear_zones.new.survey.zones.items = c.in_ok-half_clean.ensures.scanned ∙ c.requires.fits.scanned ∙ ap (λ (zs : Vec ReportedZone Global). length zs.items) (sym c.clear_zones.ensures.zones) in
    rw same at c.in_ok-repair.ensures.listed
