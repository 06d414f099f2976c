use Rattle.std.proofs.Common.{◌∙◌, sym, arith}
use Rattle.zone_drive.proofs.HabitLaws.{closes-none, closes-step}
use Rattle.zone_drive.proofs.memory_zones.MemoryZonesHeldZones.close_implicit.Goals as goal

pub loop-low-smaller : goal.loop-low-smaller
loop-low-smaller c =
    let step = closes-step c.loop-low.self.zones c.in-Some.low c.in-Some.ensures in
    rw c.act.ensures (omega (arith, step.fewer))

pub loop-low-preserved : goal.loop-low-preserved
loop-low-preserved c =
    let step = closes-step c.loop-low.self.zones c.in-Some.low c.in-Some.ensures in
    rw c.act.ensures (step.rest ∙ c.loop-low.invariant.0, c.loop-low.invariant.1)

pub returns-clause-closed : goal.returns-clause-closed
returns-clause-closed c = sym (closes-none c.loop-low.self.zones c.in_default.ensures) ∙ c.loop-low.invariant.0
