use Rattle.std.proofs.Common.{◌≡◌, ap, arith}
use Rattle.zone_states.specs.declared.geometry.Geometry.{Geometry}
use Rattle.zone_translator.proofs.ReportLaws.{report_fails, report_halts, report_kept, reports-all}
use Rattle.zone_translator.proofs.report.report_all.Goals as goal

pub returns-clause-kept : goal.returns-clause-kept
returns-clause-kept g c = λ clean.
    rw (← c.disk.view_is)
    (report_kept (g.D.Device.drive c.disk.inside.device) _ c.disk.inside.tables _ _ ((rw (← c.disk.view_is) at c.requires.agrees) (c.in_default.ensures.obeys.trusted clean)) c.report.ensures.kept.contents c.report.ensures.kept.closing c.in_default.ensures.obeys c.in_default.ensures.shown)

pub returns-clause-zones : goal.returns-clause-zones
returns-clause-zones g c =
    let sane = rw (← c.disk.view_is) at c.requires.sane in
    let geometry = rw (← c.disk.view_is) at c.geometry-zones.ensures in
    let zones : c.geometry-zones.result.zones ≡ (g.D.Device.drive c.disk.inside.device).geometry.zones = ap (λ (x : Geometry). x.zones) geometry in
    rw (← c.disk.view_is) (reports-all (g.D.Device.drive c.disk.inside.device) _ _ _ sane.geometry c.in_default.ensures.obeys.was_lawful.count (omega (arith, zones)) c.in_default.ensures.shown)

pub returns-clause-shape : goal.returns-clause-shape
returns-clause-shape g c = rw (← c.disk.view_is) (record { geometry = c.in_default.ensures.obeys.geometry; trusted = c.in_default.ensures.obeys.trusted; unfailing = c.in_default.ensures.obeys.unfailing })

pub returns-in-Err-clause-kept : goal.returns-in-Err-clause-kept
returns-in-Err-clause-kept g c = λ clean.
    rw (← c.disk.view_is)
    (report_halts (g.D.Device.drive c.disk.inside.device) _ c.disk.inside.tables _ _ c.in-Err.fault ((rw (← c.disk.view_is) at c.requires.agrees) (c.in-Err.ensures.obeys.trusted clean)) c.in-Err.ensures.gives c.report.ensures.kept.contents c.report.ensures.kept.closing c.in-Err.ensures.obeys c.in-Err.ensures.taken).kept

pub returns-in-Err-clause-err : goal.returns-in-Err-clause-err
returns-in-Err-clause-err g c =
    let sane = rw (← c.disk.view_is) at c.requires.sane in
    let fails = report_fails (g.D.Device.drive c.disk.inside.device) _ c.in-Err.fault sane.geometry c.in-Err.ensures.obeys c.in-Err.ensures.taken in
    rw (c.fault_of.ensures fails.halt) fails.cause

pub returns-in-Err-clause-shape : goal.returns-in-Err-clause-shape
returns-in-Err-clause-shape g c = rw (← c.disk.view_is) (record { geometry = c.in-Err.ensures.obeys.geometry; trusted = c.in-Err.ensures.obeys.trusted; unfailing = c.in-Err.ensures.obeys.unfailing })
