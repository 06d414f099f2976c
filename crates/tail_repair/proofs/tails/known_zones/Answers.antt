use Rattle.std.proofs.Common.{length, arith, ap, subst}
use Rattle.zone_states.specs.Geometry.{IsInRange}
use Rattle.drive_survey.specs.Survey.{AreReportedUsable}
use Rattle.drive_survey.proofs.ReadLaws.{keeps-none}
use Rattle.drive_survey.proofs.SurveyLaws.{few-zones, known-all, unusable-old}
use Rattle.tail_repair.proofs.TailLaws.{few-reported}
use Rattle.tail_repair.proofs.tails.known_zones.Goals as goal

pub returns-in_default-clause-kept : goal.returns-in_default-clause-kept
returns-in_default-clause-kept g c = keeps-none _ c.geometry.ensures.lawful

pub lowest_unusable-requires : goal.lowest_unusable-requires
lowest_unusable-requires g c =
    let range : IsInRange (g.D.Device.drive c.args.device.now).geometry = subst IsInRange c.geometry.ensures.value c.in-Ok.ensures.ok in
    let few = few-zones (g.D.Device.drive c.args.device.now) _ c.in_ok-zones.zones.items range c.geometry.ensures.lawful c.in_ok-zones.ensures.ok in
    omega (arith, few, ap length c.deref.ensures.value)

pub returns-clause-ok : goal.returns-clause-ok
returns-clause-ok g c =
    let range : IsInRange (g.D.Device.drive c.args.device.now).geometry = subst IsInRange c.geometry.ensures.value c.in-Ok.ensures.ok in
    let usable : AreReportedUsable c.in_ok-zones.zones.items = rw (← c.deref.ensures.value) c.in_default-lowest_unusable.ensures.none in
    known-all (g.D.Device.drive c.args.device.now) _ c.in_ok-zones.zones.items range c.report_zones.ensures.kept c.in_ok-zones.ensures.ok usable

pub returns-clause-few : goal.returns-clause-few
returns-clause-few g c =
    let range : IsInRange (g.D.Device.drive c.args.device.now).geometry = subst IsInRange c.geometry.ensures.value c.in-Ok.ensures.ok in
    few-reported (g.D.Device.drive c.args.device.now) _ c.in_ok-zones.zones.items range c.geometry.ensures.lawful c.in_ok-zones.ensures.ok

pub returns-in-Some-clause-err : goal.returns-in-Some-clause-err
returns-in-Some-clause-err g c = unusable-old (g.D.Device.drive c.args.device.now) _ c.in_ok-zones.zones.items c.in-Some.zone c.in_ok-zones.ensures.ok (rw (← c.deref.ensures.value) c.in-Some.ensures.some)
