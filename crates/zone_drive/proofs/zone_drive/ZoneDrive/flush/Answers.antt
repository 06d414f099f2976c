use Rattle.std.proofs.Common.{refl}
use Rattle.zone_drive.proofs.OutcomeLaws.{gives-flush}
use Rattle.zone_drive.proofs.DurableLaws.{durable-just, durable-or, durable-or-now, on-err}
use Rattle.zone_drive.proofs.HeldLaws.{holds-after}
use Rattle.zone_drive.proofs.zone_drive.ZoneDrive.flush.Goals as goal

pub returns-clause-ok : goal.returns-clause-ok
returns-clause-ok g c = λ bytes.
    let inside = c.self.inside in
    let stored = c.flush.ensures.stored in
    rw (c.done.ensures, ← c.self.view_is) (gives-flush _ _ bytes (rw stored refl)
    (rw stored (durable-just inside.geometry.block (g.Z.HeldZones.stored inside.zones) (g.Z.HeldZones.durable c.flush.new.self) c.in_ok-flush.ensures.just)))

pub returns-in_err-flush-clause-kept : goal.returns-in_err-flush-clause-kept
returns-in_err-flush-clause-kept g c =
    let inside = c.self.inside in
    let stored = c.flush.ensures.stored in
    rw (← c.self.view_is) (on-err c.from_residual.result _ (record {
      hardens = rw stored (durable-or inside.geometry.block (g.Z.HeldZones.stored inside.zones) (g.Z.HeldZones.durable inside.zones) (g.Z.HeldZones.durable c.flush.new.self) c.flush.ensures.durable);
      others = rw stored refl;
    }))

pub invariant_of-self : goal.invariant_of-self
invariant_of-self g c =
    let inside = c.self.inside in
    let held = c.self.invariant in
    holds-after g.Z.HeldZones inside held c.flush.new.self (rw c.flush.ensures.stored held.1) c.flush.ensures.shape (durable-or-now inside.geometry (g.Z.HeldZones.stored inside.zones) (g.Z.HeldZones.durable inside.zones) (g.Z.HeldZones.durable c.flush.new.self) held.0 held.1 held.7 c.flush.ensures.durable)

pub invariant_of-self-2 : goal.invariant_of-self-2
invariant_of-self-2 g c =
    let inside = c.self.inside in
    let held = c.self.invariant in
    holds-after g.Z.HeldZones inside held c.flush.new.self (rw c.flush.ensures.stored held.1) c.flush.ensures.shape (durable-or-now inside.geometry (g.Z.HeldZones.stored inside.zones) (g.Z.HeldZones.durable inside.zones) (g.Z.HeldZones.durable c.flush.new.self) held.0 held.1 held.7 c.flush.ensures.durable)
