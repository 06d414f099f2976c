use Rattle.std.proofs.Common.{◌∙◌, sym, arith}
use Rattle.zone_drive.proofs.HabitLaws.{closes-none, closes-step}
use Rattle.file_drive.specs.InFile.{filed}
use Rattle.file_drive.proofs.held_zones.FileZonesHeldZones.close_implicit.Goals as goal

pub loop-low-smaller : goal.loop-low-smaller
loop-low-smaller g c =
    let step = closes-step (filed g.F.FileBytes.seen c.loop-low.self) c.in-Some.low c.in-Some.ensures in
    rw c.close_one.ensures.closed (omega (arith, step.fewer))

pub loop-low-preserved : goal.loop-low-preserved
loop-low-preserved g c =
    let step = closes-step (filed g.F.FileBytes.seen c.loop-low.self) c.in-Some.low c.in-Some.ensures in (
      rw c.close_one.ensures.closed step.rest ∙ c.loop-low.invariant.0,
      c.close_one.ensures.shape ∙ c.loop-low.invariant.1,
      c.close_one.ensures.durable ∙ c.loop-low.invariant.2,
    )

pub returns-clause-closed : goal.returns-clause-closed
returns-clause-closed g c = sym (closes-none (filed g.F.FileBytes.seen c.loop-low.self) c.in_default.ensures) ∙ c.loop-low.invariant.0
