use Rattle.std.proofs.Common.{refl, subst}
use Rattle.zone_states.specs.Geometry.{IsInRange}
use Rattle.drive_survey.proofs.ReadLaws.{keeps-both, keeps-none}
use Rattle.drive_rescue.proofs.RescueLaws.{finds-held, is-found, told-all}
use Rattle.drive_rescue.proofs.rescuing.find.Goals as goal

pub returns-in_default-clause-kept : goal.returns-in_default-clause-kept
returns-in_default-clause-kept g c = keeps-none _ c.geometry-geometry.ensures.lawful

pub returns-then-given-gt-MOST_BLOCKS-clause-kept : goal.returns-then-given-gt-MOST_BLOCKS-clause-kept
returns-then-given-gt-MOST_BLOCKS-clause-kept g c = keeps-none _ c.geometry-geometry.ensures.lawful

pub search_zones-requires-clause-zones : goal.search_zones-requires-clause-zones
search_zones-requires-clause-zones g c = told-all _ _ c.in_ok-zones.zones.items _ c.report.ensures.kept c.deref.ensures.value c.in_ok-zones.ensures.ok

pub returns-in_err-search-clause-kept : goal.returns-in_err-search-clause-kept
returns-in_err-search-clause-kept g c = keeps-both _ _ _ c.report.ensures.kept c.search_zones.ensures.kept.zones

pub returns-clause-ok : goal.returns-clause-ok
returns-clause-ok g c =
    let first = g.S.Source.view c.args.source.now in
    let told = g.S.Source.view c.report.new.self in
    let last = g.S.Source.view c.search_zones.new.source in
    let kept = keeps-both first.drive told.drive last.drive c.report.ensures.kept c.search_zones.ensures.kept.zones in
    let range : IsInRange first.drive.geometry = subst IsInRange c.geometry-geometry.ensures.value c.in-Ok.ensures.ok in
    let held = finds-held told last c.in_ok-search.search c.deref.result.now c.search_zones.ensures.kept
    (told-all first.drive told.drive c.in_ok-zones.zones.items c.deref.result.now c.report.ensures.kept c.deref.ensures.value c.in_ok-zones.ensures.ok) c.in_ok-search.ensures.ok in
    is-found last c.args.given _ c.in_ok-search.search (rw kept.geometry range) kept.lawful held refl c.size_or-blocks.ensures.is c.size_or-blocks.ensures.small

pub returns-clause-kept : goal.returns-clause-kept
returns-clause-kept g c = keeps-both _ _ _ c.report.ensures.kept c.search_zones.ensures.kept.zones
