-- What is known of a command before it is done.
use Rattle.std.specs.Prelude.{◌≡◌, ℕ, List, Option, Result}
use Rattle.nvme_wire.specs.Entry.{decode_of}
use Rattle.nvme_wire.specs.declared.command.Command.{Command}
use Rattle.nvme_wire.specs.declared.command.DecodeFault.{DecodeFault}
use Rattle.nvme_wire.specs.declared.status.Status.{Status}
use Rattle.drive_port.specs.Drive.{DriveState, IsLawful}
use Rattle.drive_port.specs.Step.{Effect, Outcome}
use Rattle.zone_drive.specs.Choice.{performed}
use Rattle.zone_drive.specs.Habits.{MemoryDrive}
use Rattle.zone_drive.specs.Sending.{Opens}
use Rattle.zone_drive.specs.Writing.{WritesAfter}

-- what the command of an entry gives on this drive, if there is memory for it, before the drive closes anything after it
abbrev pub foreseen : MemoryDrive → List ℕ → List ℕ → Outcome
foreseen drive entry bytes = performed drive.habit drive.state.geometry drive.state.zones (decode_of entry) bytes

-- the drive with these zones, and nothing else changed
abbrev pub having : DriveState → Outcome → DriveState
having drive given = record drive { zones = given.zones }

-- This is what a command may give on this drive: it is its effect, and a drive can have the zones that it leaves.
pub record CanGive (drive : DriveState) (command : Result Command DecodeFault) (bytes : List ℕ) (given : Outcome) : Type 0 where
  pub effect : Effect drive.geometry drive.zones command bytes given.status given.value given.returned given.zones
  pub lawful : IsLawful (having drive given)

-- The status with which a command will end, and that what it gives is what a drive may give.
pub record Foresees (drive : MemoryDrive) (command : Result Command DecodeFault) (bytes : List ℕ) (status : Status) : Type 0 where
  pub status_is : status ≡ (performed drive.habit drive.state.geometry drive.state.zones command bytes).status
  pub can : CanGive drive.state command bytes (performed drive.habit drive.state.geometry drive.state.zones command bytes)

-- ---- the resources

-- there is a drive as the one is on which these blocks were written, or none of them where a resource is missing
abbrev pub CouldWrite : MemoryDrive → ℕ → List ℕ → Option Status → Type 0
CouldWrite drive index bytes refusal = (next : MemoryDrive) × WritesAfter drive index bytes refusal next × IsLawful next.state

-- the same of a zone that is opened
abbrev pub CouldOpen : MemoryDrive → ℕ → Option Status → Type 0
CouldOpen drive index refusal = (next : MemoryDrive) × Opens drive index refusal next × IsLawful next.state
