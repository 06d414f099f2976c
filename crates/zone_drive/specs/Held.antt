-- What holds the zones of a drive, and what of them is durable: the zones that an open may find after a loss of power.
use Rattle.std.specs.Prelude.{◌≡◌, ◌⊎◌, Bool, Contains, List, map}
use Rattle.zone_states.specs.declared.geometry.Geometry.{Geometry}
use Rattle.zone_states.specs.Stored.{StoredZone}
use Rattle.drive_port.specs.Run.{restarted_state}
use Rattle.zone_drive.specs.Habits.{MemoryDrive}
use Rattle.zone_drive.specs.Stored.{AreZones}

-- a drive, and what holds its zones
pub record HeldDrive (H : Type 0) : Type 0 where
  pub drive : MemoryDrive
  pub held : H
  -- it has stopped because what holds its zones did
  pub halted : Bool

-- a restart closes a zone
abbrev pub restarted_stored : StoredZone → StoredZone
restarted_stored zone = record zone { state = restarted_state zone.state }

-- Only these zones are durable, as a restart leaves them.
abbrev pub DurableJust : List StoredZone → List (List StoredZone) → Type 0
DurableJust now durable = (zones : List StoredZone) → Contains durable zones → zones ≡ map restarted_stored now

-- Durable is only what was durable before, or these zones, as a restart leaves them.
abbrev pub DurableOrNow : List StoredZone → List (List StoredZone) → List (List StoredZone) → Type 0
DurableOrNow now old new = (zones : List StoredZone) → Contains new zones → Contains old zones ⊎ (zones ≡ map restarted_stored now)

-- Whatever is durable, a drive of this shape can have.
abbrev pub AreDurable : Geometry → List (List StoredZone) → Type 0
AreDurable geometry durable = (zones : List StoredZone) → Contains durable zones → AreZones geometry zones

-- zones in memory: the shape of their drive, and the zones as they are stored
pub record ShapedZones : Type 0 where
  pub shape : Geometry
  pub zones : List StoredZone
