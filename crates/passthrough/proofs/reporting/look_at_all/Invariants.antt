use Rattle.std.proofs.Common.{◌≡◌, true, ◌≤◌, ◌-◌}
use Rattle.drive_port.specs.Drive.{IsClosing}
use Rattle.passthrough.specs.Asking.{IsReady}
use Rattle.passthrough.specs.Showing.{WereSeen}
use Rattle.passthrough.proofs.reporting.look_at_all.Given as goal

abbrev pub invariant-loop-first : goal.invariant-loop-first
invariant-loop-first g l =
    (l.first ≤ l.geometry.zones)
    × WereSeen 0 l.first l.geometry (g.P.Passthrough.zones l.fn.way) l.fn.seen l.seen (g.P.Passthrough.zones l.way)
    × IsReady l.geometry (g.P.Passthrough.shape l.way) (g.P.Passthrough.zones l.way) l.seen
    × IsClosing (g.P.Passthrough.zones l.fn.way) (g.P.Passthrough.zones l.way)
    × (g.P.Passthrough.flushed l.fn.way ≡ true → g.P.Passthrough.flushed l.way ≡ true)

abbrev pub decreases-loop-first : goal.decreases-loop-first
decreases-loop-first g l = l.geometry.zones - l.first
