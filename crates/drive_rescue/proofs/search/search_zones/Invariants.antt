use Rattle.drive_rescue.specs.Rescue.{KeepsSource}
use Rattle.drive_rescue.proofs.SearchLaws.{SearchedTo}
use Rattle.drive_rescue.proofs.search.search_zones.Given as goal

abbrev pub invariant-loop-number : goal.invariant-loop-number
invariant-loop-number g l =
    KeepsSource (g.S.Source.view l.fn.source) (g.S.Source.view l.source) × SearchedTo (g.S.Source.view l.source) l.number l.search
