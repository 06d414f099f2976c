use Rattle.std.proofs.Common.{◌-◌, ◌≤◌}
use Rattle.drive_rescue.specs.Giving.{GivesAll, IsKept}
use Rattle.drive_rescue.specs.Rescue.{KeepsSource}
use Rattle.drive_rescue.specs.Searching.{Finding}
use Rattle.drive_rescue.proofs.giving.give_blocks.Given as goal

abbrev pub invariant-loop-rescued : goal.invariant-loop-rescued
invariant-loop-rescued g l =
    KeepsSource (g.S.Source.view l.fn.source) (g.S.Source.view l.source) × (l.rescued.blocks ≤ l.size)
    × ((finding : Finding) → IsKept (g.S.Source.view l.fn.source) l.search finding
    → GivesAll (g.S.Source.view l.source) finding l.rescued (g.W.Write.contents l.fn.writer) (g.W.Write.contents l.writer))

abbrev pub decreases-loop-rescued : goal.decreases-loop-rescued
decreases-loop-rescued g l = l.size - l.rescued.blocks
