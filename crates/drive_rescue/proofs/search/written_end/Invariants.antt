use Rattle.std.proofs.Common.{◌≤◌}
use Rattle.drive_rescue.specs.Rescue.{KeepsSource}
use Rattle.drive_rescue.proofs.SearchLaws.{ZerosFrom}
use Rattle.drive_rescue.proofs.search.written_end.Given as goal

abbrev pub invariant-loop-end : goal.invariant-loop-end
invariant-loop-end g l =
    KeepsSource (g.S.Source.view l.fn.source) (g.S.Source.view l.source) × (l.end ≤ l.zone.blocks) × ZerosFrom (g.S.Source.view l.fn.source) l.zone.number l.end

abbrev pub decreases-loop-end : goal.decreases-loop-end
decreases-loop-end g l = l.end
