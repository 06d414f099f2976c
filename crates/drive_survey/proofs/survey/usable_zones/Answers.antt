use Rattle.std.proofs.Common.{◌≡◌, inr, length, arith, refl, ap, subst, ◌∙◌}
use Rattle.std.specs.Prelude.{count_by}
use Rattle.zone_states.specs.declared.geometry.Geometry.{Geometry}
use Rattle.zone_states.specs.Geometry.{IsInRange}
use Rattle.drive_array.specs.Reserve.{FitsReserve}
use Rattle.drive_survey.specs.Survey.{AreReportedUsable, is_partly_reported}
use Rattle.drive_survey.proofs.ReadLaws.{keeps-none}
use Rattle.drive_survey.proofs.SurveyLaws.{can-scan, few-zones, known-all, partly-old, tells-shut, unusable-old, usable-old}
use Rattle.drive_survey.proofs.survey.usable_zones.Goals as goal

pub returns-in_default-clause-kept : goal.returns-in_default-clause-kept
returns-in_default-clause-kept g c = keeps-none _ c.geometry-geometry.ensures.lawful

pub returns-then-not-fits_reserve-clause-kept : goal.returns-then-not-fits_reserve-clause-kept
returns-then-not-fits_reserve-clause-kept g c = keeps-none _ c.geometry-geometry.ensures.lawful

pub lowest_unusable-requires : goal.lowest_unusable-requires
lowest_unusable-requires g c =
    let range : IsInRange (g.D.Device.drive c.args.device.now).geometry = subst IsInRange c.geometry-geometry.ensures.value c.in-Ok.ensures.ok in
    let few = few-zones (g.D.Device.drive c.args.device.now) _ c.in_ok-zones.zones.items range c.geometry-geometry.ensures.lawful c.in_ok-zones.ensures.ok in
    omega (arith, few, ap length c.deref.ensures.value)

pub returns-in-Some-clause-err : goal.returns-in-Some-clause-err
returns-in-Some-clause-err g c =
    let range : IsInRange (g.D.Device.drive c.args.device.now).geometry = subst IsInRange c.geometry-geometry.ensures.value c.in-Ok.ensures.ok in
    let reserve : FitsReserve (g.D.Device.drive c.args.device.now).geometry c.args.given = subst (λ (x : Geometry). FitsReserve x c.args.given) c.geometry-geometry.ensures.value (c.if-not-fits_reserve.ensures.0 refl) in
    inr (inr (range, reserve, unusable-old (g.D.Device.drive c.args.device.now) _ c.in_ok-zones.zones.items c.in-Some.zone c.in_ok-zones.ensures.ok (rw (← c.deref.ensures.value) c.in-Some.ensures.some)))

pub returns-then-count_partly_written-gt2-clause-err : goal.returns-then-count_partly_written-gt2-clause-err
returns-then-count_partly_written-gt2-clause-err g c =
    let range : IsInRange (g.D.Device.drive c.args.device.now).geometry = subst IsInRange c.geometry-geometry.ensures.value c.in-Ok.ensures.ok in
    let reserve : FitsReserve (g.D.Device.drive c.args.device.now).geometry c.args.given = subst (λ (x : Geometry). FitsReserve x c.args.given) c.geometry-geometry.ensures.value (c.if-not-fits_reserve.ensures.0 refl) in
    let usable : AreReportedUsable c.in_ok-zones.zones.items = rw (← c.deref.ensures.value) c.in_default-lowest_unusable.ensures.none in
    let count : c.count_partly_written.result ≡ count_by is_partly_reported c.in_ok-zones.zones.items = c.count_partly_written.ensures ∙ ap (count_by is_partly_reported) c.deref-2.ensures.value in
    inr (inr (
      range,
      reserve,
      usable-old (g.D.Device.drive c.args.device.now) _ c.in_ok-zones.zones.items c.in_ok-zones.ensures.ok usable,
      omega (arith, c.if-count_partly_written-gt2.true, count, partly-old (g.D.Device.drive c.args.device.now) _ c.in_ok-zones.zones.items c.in_ok-zones.ensures.ok usable),
    ))

pub returns-clause-ok : goal.returns-clause-ok
returns-clause-ok g c =
    let range : IsInRange (g.D.Device.drive c.args.device.now).geometry = subst IsInRange c.geometry-geometry.ensures.value c.in-Ok.ensures.ok in
    let reserve : FitsReserve (g.D.Device.drive c.args.device.now).geometry c.args.given = subst (λ (x : Geometry). FitsReserve x c.args.given) c.geometry-geometry.ensures.value (c.if-not-fits_reserve.ensures.0 refl) in
    let usable : AreReportedUsable c.in_ok-zones.zones.items = rw (← c.deref.ensures.value) c.in_default-lowest_unusable.ensures.none in
    let count : c.count_partly_written.result ≡ count_by is_partly_reported c.in_ok-zones.zones.items = c.count_partly_written.ensures ∙ ap (count_by is_partly_reported) c.deref-2.ensures.value in (
      can-scan (g.D.Device.drive c.args.device.now) _ c.args.given c.in_ok-zones.zones.items range reserve c.in_ok-zones.ensures.ok usable (omega (arith, c.if-count_partly_written-gt2.false, count)),
      known-all (g.D.Device.drive c.args.device.now) _ c.in_ok-zones.zones.items range c.report_zones.ensures.kept c.in_ok-zones.ensures.ok usable,
      tells-shut (g.D.Device.drive c.args.device.now) _ c.in_ok-zones.zones.items c.in_ok-zones.ensures.ok,
    )

pub returns-in_err-zones-clause-unsent : goal.returns-in_err-zones-clause-unsent
returns-in_err-zones-clause-unsent g c never = absurd (never (record { geometry = (subst IsInRange c.geometry-geometry.ensures.value c.in-Ok.ensures.ok); reserve = (subst (λ (x : Geometry). FitsReserve x c.args.given) c.geometry-geometry.ensures.value (c.if-not-fits_reserve.ensures.0 refl)) }))

pub returns-in-Some-clause-unsent : goal.returns-in-Some-clause-unsent
returns-in-Some-clause-unsent g c never = absurd (never (record { geometry = (subst IsInRange c.geometry-geometry.ensures.value c.in-Ok.ensures.ok); reserve = (subst (λ (x : Geometry). FitsReserve x c.args.given) c.geometry-geometry.ensures.value (c.if-not-fits_reserve.ensures.0 refl)) }))

pub returns-then-count_partly_written-gt2-clause-unsent : goal.returns-then-count_partly_written-gt2-clause-unsent
returns-then-count_partly_written-gt2-clause-unsent g c never = absurd (never (record { geometry = (subst IsInRange c.geometry-geometry.ensures.value c.in-Ok.ensures.ok); reserve = (subst (λ (x : Geometry). FitsReserve x c.args.given) c.geometry-geometry.ensures.value (c.if-not-fits_reserve.ensures.0 refl)) }))

pub returns-clause-unsent : goal.returns-clause-unsent
returns-clause-unsent g c never = absurd (never (record { geometry = (subst IsInRange c.geometry-geometry.ensures.value c.in-Ok.ensures.ok); reserve = (subst (λ (x : Geometry). FitsReserve x c.args.given) c.geometry-geometry.ensures.value (c.if-not-fits_reserve.ensures.0 refl)) }))
