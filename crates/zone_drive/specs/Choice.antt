-- Which zones a drive of each habit closes by itself.
use Rattle.std.specs.Prelude.{◌≡◌, ℕ, ◌<◌, ◌&&◌, Bool, true, false, if◌then◌else◌, List, [], ◌∷◌, length, slice_set, Option, Some, None, Result, Ok, Err}
use Rattle.nvme_wire.specs.Entry.{decode_of, id_of}
use Rattle.nvme_wire.specs.Completion.{completion_bytes}
use Rattle.nvme_wire.specs.declared.zone_state.ZoneState.TheVariants.{ImplicitlyOpened}
use Rattle.nvme_wire.specs.declared.command.Command.{Command}
use Rattle.nvme_wire.specs.declared.command.DecodeFault.{DecodeFault}
use Rattle.nvme_wire.specs.declared.status.Status.{Status}
use Rattle.nvme_wire.specs.declared.status.Status.TheVariants.{TooManyOpenZones}
use Rattle.zone_states.specs.declared.geometry.Geometry.{Geometry}
use Rattle.zone_states.specs.Checks.{first_failing}
use Rattle.zone_states.specs.Transition.{is_state}
use Rattle.zone_states.specs.Zone.{Zone}
use Rattle.zone_drive.specs.declared.habit.Habit.{Habit}
use Rattle.zone_drive.specs.declared.reply.Reply.{Reply}
use Rattle.zone_drive.specs.Habits.{MemoryDrive, closed_zone, makes_room, settled, with_durable, with_zones}
use Rattle.drive_port.specs.Durable.{Hardens, MayHarden}
use Rattle.drive_port.specs.Step.{Outcome, outcome, resource_checks, zone_at}

-- the zones with the lowest implicitly opened one closed, if any
abbrev pub close_lowest : List Zone → List Zone
close_lowest [] = []
close_lowest (zone ∷ zones) = if is_state ImplicitlyOpened zone.state then closed_zone zone ∷ zones else zone ∷ close_lowest zones

-- the lowest implicitly opened zone has this number
pub record IsLowestOpened (zones : List Zone) (low : ℕ) : Type 0 where
  pub in_range : low < length zones
  pub opened : (zone_at zones low).state ≡ ImplicitlyOpened
  pub closes : close_lowest zones ≡ slice_set zones low (closed_zone (zone_at zones low))

abbrev pub wants_open_resource : Status → Bool
wants_open_resource TooManyOpenZones = true
wants_open_resource status = false

-- The zones on which the command is done: where it would be refused because no open resource is left, a drive that
-- makes room closes the lowest implicitly opened zone first. Nothing else is closed before a command.
abbrev pub chosen : Habit → Geometry → List Zone → Result Command DecodeFault → List ℕ → List Zone
chosen habit geometry zones command bytes =
    if wants_open_resource (outcome geometry zones command bytes).status && makes_room habit then close_lowest zones else zones

-- what a command gives on a drive of this habit, before the drive closes anything after it
abbrev pub performed : Habit → Geometry → List Zone → Result Command DecodeFault → List ℕ → Outcome
performed habit geometry zones command bytes = outcome geometry (chosen habit geometry zones command bytes) command bytes

-- The command was done on the drive as old: this reply, these bytes, and the drive as new. Of the drive nothing changed
-- but the zones and, by a Flush, what is durable of them.
pub record Gives (old : MemoryDrive) (command : Result Command DecodeFault) (bytes : List ℕ) (reply : Reply) (returned : List ℕ)
    (new : MemoryDrive) : Type 0 where
  pub outcome : performed old.habit old.state.geometry old.state.zones command bytes
      ≡ record { status = reply.status; value = reply.value; returned = returned; zones = new.state.zones }
  pub hardens : Hardens command old.state new.state
  pub others : new ≡ with_durable (with_zones old new.state.zones) new.state.durable

-- The command was not done on the drive as old, and left it as new. A Flush may have made the zones durable.
pub record Keeps (old : MemoryDrive) (command : Result Command DecodeFault) (new : MemoryDrive) : Type 0 where
  pub hardens : MayHarden command old.state new.state
  pub others : new ≡ with_durable old new.state.durable

-- An entry is answered by what its command gives on this drive, and by nothing else. Then the drive closes what its habit says.
pub record AnswersByChoice (old : MemoryDrive) (entry bytes completion returned : List ℕ) (new : MemoryDrive) : Type 0 where
  pub completion_is : completion
      ≡ completion_bytes
      (record {
        result = (performed old.habit old.state.geometry old.state.zones (decode_of entry) bytes).value;
        id = id_of entry;
        status = (performed old.habit old.state.geometry old.state.zones (decode_of entry) bytes).status;
      })
  pub returned_is : returned ≡ (performed old.habit old.state.geometry old.state.zones (decode_of entry) bytes).returned
  pub zones_are : new.state.zones ≡ settled old.habit (performed old.habit old.state.geometry old.state.zones (decode_of entry) bytes).zones
  pub habit : new.habit ≡ old.habit

-- Room for a zone to be opened: there are resources for it, or there are once the zone with this number is closed, or a drive of this habit has none.
abbrev pub RoomGives : Habit → Geometry → List Zone → Zone → Result (Option ℕ) Status → Type 0
RoomGives habit geometry zones zone (Ok None) = None ≡ first_failing (resource_checks geometry zones zone)
RoomGives habit geometry zones zone (Ok (Some low)) =
    (Some TooManyOpenZones ≡ first_failing (resource_checks geometry zones zone)) × (makes_room habit ≡ true)
    × IsLowestOpened zones low
RoomGives habit geometry zones zone (Err status) =
    (Some status ≡ first_failing (resource_checks geometry zones zone))
    × ((wants_open_resource status && makes_room habit) ≡ true → close_lowest zones ≡ zones)

-- the zones once there is room for that zone: the lowest implicitly opened one is closed where it has to be
abbrev pub with_room : List Zone → Option ℕ → List Zone
with_room zones None = zones
with_room zones (Some low) = close_lowest zones
