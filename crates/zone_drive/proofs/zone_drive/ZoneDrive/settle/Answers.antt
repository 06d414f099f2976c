use Rattle.std.proofs.Common.{rules, ◌≡◌, refl, ◌∙◌}
use Rattle.zone_drive.specs.declared.habit.Habit.TheVariants.{Closing}
use Rattle.zone_drive.proofs.HabitLaws.{are-closed, zones_of-closed}
use Rattle.zone_drive.proofs.zone_drive.ZoneDrive.settle.Goals as goal

pub invariant_of-self : goal.invariant_of-self
invariant_of-self g c =
    let held = c.self.invariant in (
      held.0,
      rw c.close_implicit.ensures.closed (are-closed c.self.inside.geometry (g.Z.HeldZones.stored c.self.inside.zones) held.1),
      c.close_implicit.ensures.shape ∙ held.2,
      held.3,
      held.4,
      held.5,
      held.6,
      rw c.close_implicit.ensures.durable held.7,
      held.8,
    )

pub returns-then-eq-clause-settled : goal.returns-then-eq-clause-settled
returns-then-eq-clause-settled g c =
    let closing : c.self.inside.habit ≡ Closing = search rules in
    rw (← c.self.view_is, c.close_implicit.ensures.durable, c.close_implicit.ensures.closed, zones_of-closed c.self.inside.geometry.block (g.Z.HeldZones.stored c.self.inside.zones), closing) refl
