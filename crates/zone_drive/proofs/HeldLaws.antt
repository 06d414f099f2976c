-- A drive after a call on the zones that it holds.
use Rattle.std.proofs.Common.{◌≡◌, ◌∙◌}
use Rattle.zone_drive.specs.Held.{AreDurable}
use Rattle.zone_drive.specs.Stored.{AreZones}
use Rattle.zone_drive.specs.declared.held.HeldZones.{Ghosts}
use Rattle.zone_drive.specs.declared.zone_drive.ZoneDrive.TheInside.{Inside}
use Rattle.zone_drive.specs.declared.zone_drive.ZoneDrive.TheView.{invariant}

-- It holds zones of its shape, and what is durable fits the shape too. All else is as before.
pub holds-after : {Z : Type 0} (zones : Ghosts Z) (d : Inside Z) → invariant Z zones d → (new : Z) → AreZones d.geometry (zones.stored new) → zones.shape new ≡ zones.shape d.zones
    → AreDurable d.geometry (zones.durable new) → invariant Z zones (record d { zones = new })
holds-after zones d held new are shape durable = (held.0, are, shape ∙ held.2, held.3, held.4, held.5, held.6, durable, held.8)

-- It is as before where the call has changed nothing.
pub holds-same : {Z : Type 0} (zones : Ghosts Z) (d : Inside Z) → invariant Z zones d → (new : Z) → zones.stored new ≡ zones.stored d.zones → zones.shape new ≡ zones.shape d.zones
    → zones.durable new ≡ zones.durable d.zones → invariant Z zones (record d { zones = new })
holds-same zones d held new same shape durable = holds-after zones d held new (rw same held.1) shape (rw durable held.7)
