use Rattle.std.proofs.Common.{◌+◌, ◌-◌, ◌*◌, length, arith, ap, ◌∙◌, drop, List, ℕ}
use Rattle.std.proofs.lemmas.List.{take_all, length-drop}
use Rattle.zone_states.specs.declared.geometry.Geometry.{Geometry}
use Rattle.drive_survey.proofs.ReportLaws.{reports-zones}
use Rattle.drive_survey.proofs.reported.report_zones.Goals as goal

pub returns-clause-ok : goal.returns-clause-ok
returns-clause-ok g c =
    reports-zones (g.D.Device.drive c.args.device.now) _ _ c.geometry-geometry.result.capacity _ _ c.in_ok-reported.reported.items c.requires.geometry c.requires.lawful
    (ap (λ (x : Geometry). 16 * (1 + x.zones)) c.geometry-geometry.ensures.value) (ap (λ (x : Geometry). x.capacity) c.geometry-geometry.ensures.value) (take_all (length c.deref.result.now - 64) (drop 64 c.deref.result.now) (omega (arith, length-drop 64 c.deref.result.now)) ∙ ap (λ (bs : List ℕ). drop 64 bs) c.deref.ensures.value) c.in_default.ensures.shown c.in_ok-reported.ensures
