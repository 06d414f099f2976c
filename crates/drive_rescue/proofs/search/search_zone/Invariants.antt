use Rattle.std.proofs.Common.{ℕ, ◌-◌}
use Rattle.drive_rescue.specs.Holding.{GetsIn, HoldsFinding, IsSought}
use Rattle.drive_rescue.specs.Rescue.{KeepsSource}
use Rattle.drive_rescue.specs.Searching.{Finding}
use Rattle.drive_rescue.specs.Zones.{cut, read_zones, zone_with}
use Rattle.drive_rescue.proofs.search.search_zone.Given as goal

abbrev pub invariant-loop-search : goal.invariant-loop-search
invariant-loop-search g l =
    KeepsSource (g.S.Source.view l.fn.source) (g.S.Source.view l.source)
    × ((finding : Finding) (end : ℕ) → HoldsFinding l.fn.search finding → IsSought l.zone (cut (zone_with (read_zones (g.S.Source.view l.fn.source).drive) l.zone.number) end)
    → GetsIn (g.S.Source.view l.source) l.zone.number end finding l.search)

abbrev pub decreases-loop-search : goal.decreases-loop-search
decreases-loop-search g l = l.zone.blocks - l.search.offset
