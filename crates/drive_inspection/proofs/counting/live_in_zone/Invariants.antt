use Rattle.std.proofs.Common.{◌-◌}
use Rattle.zone_choice.specs.Tables.{size_of}
use Rattle.drive_inspection.proofs.CountLaws.{LiveTo}
use Rattle.drive_inspection.proofs.counting.live_in_zone.Given as goal

abbrev pub invariant-loop-block : goal.invariant-loop-block
invariant-loop-block l = LiveTo l.fn.tables l.tables l.zone l.live l.from

abbrev pub decreases-loop-block : goal.decreases-loop-block
decreases-loop-block l = size_of l.fn.tables - l.from
