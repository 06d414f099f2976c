-- A drive in memory: its state as a device, and its habit.
use Rattle.std.specs.Prelude.{Bool, true, false, if◌then◌else◌, List, map}
use Rattle.nvme_wire.specs.declared.zone_state.ZoneState.TheVariants.{ImplicitlyOpened, Closed}
use Rattle.zone_states.specs.Transition.{is_state}
use Rattle.zone_states.specs.Zone.{Zone}
use Rattle.drive_port.specs.Drive.{DriveState}
use Rattle.zone_drive.specs.declared.habit.Habit.{Habit}
use Rattle.zone_drive.specs.declared.habit.Habit.TheVariants as habits

pub record MemoryDrive : Type 0 where
  pub state : DriveState
  pub habit : Habit

-- a drive that was just made
abbrev pub made : DriveState → MemoryDrive
made state = record { state = state; habit = habits.Lazy }

-- a drive on which nothing but the zones changed
abbrev pub with_zones : MemoryDrive → List Zone → MemoryDrive
with_zones drive zones = record drive { state = record drive.state { zones = zones } }

-- a drive of which these zones are durable, and nothing else changed
abbrev pub with_durable : MemoryDrive → List (List Zone) → MemoryDrive
with_durable drive durable = record drive { state = record drive.state { durable = durable } }

-- a zone after the controller closed it
abbrev pub closed_zone : Zone → Zone
closed_zone zone = record zone { state = Closed }

-- whether a drive of this habit closes a zone where a command needs an open resource and none is left
abbrev pub makes_room : Habit → Bool
makes_room habits.Strict = false
makes_room habit = true

-- the zones with each implicitly opened one closed
abbrev pub close_implicit : List Zone → List Zone
close_implicit zones = map (λ zone. if is_state ImplicitlyOpened zone.state then closed_zone zone else zone) zones

-- the zones once a drive of this habit has completed a command that left these
abbrev pub settled : Habit → List Zone → List Zone
settled habits.Closing zones = close_implicit zones
settled habit zones = zones
