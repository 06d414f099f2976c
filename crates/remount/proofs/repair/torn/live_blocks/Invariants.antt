use Rattle.std.proofs.Common.{◌-◌}
use Rattle.zone_choice.specs.Tables.{size_of}
use Rattle.remount.proofs.TornLaws.{LiveSoFar}
use Rattle.remount.proofs.repair.torn.live_blocks.Given as goal

abbrev pub invariant-loop-block : goal.invariant-loop-block
invariant-loop-block l = LiveSoFar l.fn.tables l.tables l.zone l.blocks.items l.with_data l.from

abbrev pub decreases-loop-block : goal.decreases-loop-block
decreases-loop-block l = size_of l.fn.tables - l.from
