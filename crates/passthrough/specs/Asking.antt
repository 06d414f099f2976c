-- What a command to the drive gives.
use Rattle.std.specs.Prelude.{◌≡◌, ℕ, ◌+◌, ◌^◌, nat_le, not, ◌&&◌, List, Result, Ok, Err}
use Rattle.nvme_wire.specs.declared.command.Command.{Command}
use Rattle.nvme_wire.specs.declared.command.DecodeFault.{DecodeFault}
use Rattle.nvme_wire.specs.declared.status.Status.{Status}
use Rattle.nvme_wire.specs.declared.status.Status.TheVariants.{Success}
use Rattle.zone_states.specs.declared.geometry.Geometry.{Geometry}
use Rattle.zone_states.specs.Geometry.{IsInRange}
use Rattle.zone_states.specs.Zone.{Zone}
use Rattle.drive_port.specs.declared.device.Halt.{Halt}
use Rattle.drive_port.specs.declared.device.Halt.TheVariants.{Memory, Failed, Stopped}
use Rattle.drive_port.specs.Drive.{DriveState, IsClosing}
use Rattle.drive_port.specs.Halting.{LeftBy}
use Rattle.drive_port.specs.Step.{Effect, is_append, is_success, one_if}
use Rattle.passthrough.specs.Premise.{AreLawful}
use Rattle.passthrough.specs.Seen.{AreSeen}
use Rattle.passthrough.specs.declared.seen_zone.SeenZone.{SeenZone}

-- a way leads to a lawful drive of this shape
pub record Leads (geometry shape : Geometry) (zones : List Zone) : Type 0 where
  pub shape_is : shape ≡ geometry
  pub in_range : IsInRange geometry
  pub lawful : AreLawful geometry zones

-- and what was seen of its zones is true
pub record IsReady (geometry shape : Geometry) (zones : List Zone) (seen : List SeenZone) : Type 0 where
  pub leads : Leads geometry shape zones
  pub are : AreSeen zones seen

-- what is left where memory was missing before the command was sent, where the drive failed at it, or where the drive
-- is not believed any more
abbrev pub HaltsSo : Halt → Geometry → List Zone → Result Command DecodeFault → List ℕ → List Zone → Type 0
HaltsSo Memory geometry old command bytes new = new ≡ old
HaltsSo Failed geometry old command bytes new = IsClosing old new
HaltsSo Stopped geometry old command bytes new = LeftBy geometry old command bytes new

-- a command was completed with this value, or is not believed to be
abbrev pub Asks : Geometry → List Zone → Command → List ℕ → Result ℕ Halt → List ℕ → List Zone → Type 0
Asks geometry old command bytes (Ok value) returned new =
    Effect geometry old (Ok command) bytes Success value returned new
Asks geometry old command bytes (Err halt) returned new = HaltsSo halt geometry old (Ok command) bytes new

-- a drive after one command more was completed with a status
abbrev pub counted : DriveState → Result Command DecodeFault → Status → DriveState
counted old command status = record old {
  completed = old.completed + 1;
  refused = old.refused + one_if (not (is_success status));
  appended = old.appended + one_if (is_append command && is_success status);
  stopped = nat_le (2 ^ 63) (old.completed + 1);
}
