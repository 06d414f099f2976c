use Rattle.std.proofs.Common.{take}
use Rattle.yardsticks.specs.Zones.{AreZoneLogs, image_contents, held_logs}
use Rattle.yardsticks.proofs.logs.zone_logs.Given as goal

abbrev pub invariant-loop-zone : goal.invariant-loop-zone
invariant-loop-zone l = AreZoneLogs l.geometry (image_contents (take l.zone-index l.zones)) (held_logs l.logs.items) l.tails.items
