use Rattle.drive_rescue.proofs.CutLaws.{sought-in-kept}
use Rattle.drive_rescue.proofs.KeepLaws.{keeps-source_both, keeps-source_none}
use Rattle.drive_rescue.proofs.SearchLaws.{gets-all, gets-first, gets-next}
use Rattle.drive_rescue.proofs.search.search_zone.Goals as goal

pub loop-search-init : goal.loop-search-init
loop-search-init g c = (keeps-source_none _ c.requires.lawful, λ finding end holds is. gets-first (g.S.Source.view c.args.source.now) c.args.zone.number end finding c.begin.new.self (c.begin.ensures _ finding is holds))

pub look-requires-clause-zone : goal.look-requires-clause-zone
look-requires-clause-zone g c = sought-in-kept _ _ c.args.zone c.loop-search.invariant.0 c.requires.zone

pub returns-in_err-look-clause-kept : goal.returns-in_err-look-clause-kept
returns-in_err-look-clause-kept g c = keeps-source_both _ _ _ c.loop-search.invariant.0 c.look.ensures.kept

pub loop-search-preserved : goal.loop-search-preserved
loop-search-preserved g c = (
  keeps-source_both _ _ _ c.loop-search.invariant.0 c.look.ensures.kept,
  λ finding end holds is. gets-next (g.S.Source.view c.args.source.now) (g.S.Source.view c.loop-search.source) (g.S.Source.view c.look.new.source) c.args.zone end finding c.loop-search.search c.look.new.search c.loop-search.invariant.0 c.look.ensures.kept is c.in_ok-look.ensures.ok (c.loop-search.invariant.1 finding end holds is),
)

pub returns-clause-ok : goal.returns-clause-ok
returns-clause-ok g c =
    λ finding holds. gets-all (g.S.Source.view c.args.source.now) (g.S.Source.view c.loop-search.source) c.args.zone finding c.loop-search.search c.end.new.self c.loop-search.invariant.0 c.requires.zone c.loop-search-test.false c.end.ensures (c.loop-search.invariant.1 finding c.requires.zone.end holds c.requires.zone.is)
