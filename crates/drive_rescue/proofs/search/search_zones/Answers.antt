use Rattle.std.proofs.Common.{◌+◌, arith, ap, ◌∙◌}
use Rattle.zone_states.specs.declared.geometry.Geometry.{Geometry}
use Rattle.drive_survey.proofs.AllScanLaws.{there-is}
use Rattle.drive_rescue.proofs.KeepLaws.{keeps-source_both, keeps-source_none}
use Rattle.drive_rescue.proofs.SearchLaws.{searched-more, searched-none, sought-at, told-kept}
use Rattle.drive_rescue.proofs.search.search_zones.Goals as goal

pub loop-number-init : goal.loop-number-init
loop-number-init g c = (keeps-source_none _ c.geometry-capacity.ensures.lawful, searched-none (g.S.Source.view c.args.source.now) c.new-search.result c.new-search.ensures)

pub cut-requires-clause-zone : goal.cut-requires-clause-zone
cut-requires-clause-zone g c =
    sought-at _ c.sought.result c.loop-number.number c.sought.result.number c.sought.ensures.number
    (c.sought.ensures.is _ (told-kept (g.S.Source.view c.args.source.now) (g.S.Source.view c.loop-number.source) c.args.zones.now c.loop-number.number _ c.loop-number.invariant.0 c.requires.zones (there-is c.args.zones.now c.loop-number.number _ c.loop-number-test.true) _ (ap (λ (x : Geometry). x.capacity) c.geometry-capacity.ensures.value)))

pub returns-in_err-zone-clause-kept : goal.returns-in_err-zone-clause-kept
returns-in_err-zone-clause-kept g c = keeps-source_both _ _ _ c.loop-number.invariant.0 c.cut.ensures.kept

pub returns-in_err-search_zone-clause-kept : goal.returns-in_err-search_zone-clause-kept
returns-in_err-search_zone-clause-kept g c = keeps-source_both _ _ _ (keeps-source_both _ _ _ c.loop-number.invariant.0 c.cut.ensures.kept) c.search_zone.ensures.kept

pub loop-number-preserved : goal.loop-number-preserved
loop-number-preserved g c =
    let last = g.S.Source.view c.search_zone.new.source in
    let kept = keeps-source_both (g.S.Source.view c.loop-number.source) (g.S.Source.view c.cut.new.source) last c.cut.ensures.kept c.search_zone.ensures.kept in (
      keeps-source_both _ _ _ c.loop-number.invariant.0 kept,
      searched-more (g.S.Source.view c.loop-number.source) last c.loop-number.number (c.loop-number.number + 1) c.in_ok-zone.zone.number c.loop-number.search c.search_zone.new.search kept (omega arith) (c.in_ok-zone.ensures.number ∙ c.sought.ensures.number)
          c.in_ok-search_zone.ensures.ok c.loop-number.invariant.1,
    )
