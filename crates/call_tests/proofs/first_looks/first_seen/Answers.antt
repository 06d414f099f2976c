use Rattle.std.proofs.Common.{rules, ◌≡◌, ◌*◌, ◌+◌, arith, true}
use Rattle.zone_states.specs.Geometry.{IsInRange}
use Rattle.call_tests.proofs.StartLaws.{report-seen, some-of-ok}
use Rattle.call_tests.proofs.first_looks.first_seen.Goals as goal

pub zones_shown-requires : goal.zones_shown-requires
zones_shown-requires g c =
    let is : c.is_in_range.result ≡ true = search rules in
    (c.is_in_range.ensures is).size.0

pub returns-in-Ok : goal.returns-in-Ok
returns-in-Ok g c =
    let old = g.D.Device.drive c.args.drive.now in
    let new = g.D.Device.drive c.report.new.device in
    let is : c.is_in_range.result ≡ true = search rules in
    let range : IsInRange c.geometry-geometry.result = c.is_in_range.ensures is in
    rw c.ok.ensures.value (some-of-ok c.zones_shown.result _ _ c.zones_shown.ensures.seen
    (λ seen sees. report-seen old new c.geometry-geometry.result (16 + 16 * c.from.result) _ _ seen.items c.geometry-geometry.ensures.value c.deref.ensures.value
    range c.geometry-geometry.ensures.lawful (omega (arith, c.from.ensures)) c.in-Ok.ensures.shown sees))
