-- What of a drive a loss of power leaves, and what the commands change of that.
use Rattle.std.specs.Prelude.{◌≡◌, ◌⊎◌, Bool, true, false, List, Contains, map, Result, Ok}
use Rattle.nvme_wire.specs.declared.command.Command.{Command}
use Rattle.nvme_wire.specs.declared.command.Command.TheVariants.{Flush}
use Rattle.nvme_wire.specs.declared.command.DecodeFault.{DecodeFault}
use Rattle.zone_states.specs.Zone.{Zone}
use Rattle.drive_port.specs.Drive.{DriveState}
use Rattle.drive_port.specs.Run.{restarted_zone}

abbrev pub is_flush : Command → Bool
is_flush Flush = true
is_flush command = false

-- A loss of power leaves the zones as they are, and nothing else.
abbrev pub IsDurable : DriveState → Type 0
IsDurable drive = (zones : List Zone) → Contains drive.durable zones → zones ≡ map restarted_zone drive.zones

-- It leaves what it might have left before, or the zones as they are.
abbrev pub MayBeDurable : DriveState → DriveState → Type 0
MayBeDurable old new = (zones : List Zone) → Contains new.durable zones → Contains old.durable zones ⊎ (zones ≡ map restarted_zone new.zones)

-- A Flush that was completed made the zones durable. No other command changes what is.
abbrev pub Hardens : Result Command DecodeFault → DriveState → DriveState → Type 0
Hardens (Ok Flush) old new = IsDurable new
Hardens command old new = new.durable ≡ old.durable

-- A Flush inside which the device stopped may have done so.
abbrev pub MayHarden : Result Command DecodeFault → DriveState → DriveState → Type 0
MayHarden (Ok Flush) old new = MayBeDurable old new
MayHarden command old new = new.durable ≡ old.durable
