-- Of the bytes with an entry only those matter that its command writes.
use Rattle.std.specs.Prelude.{◌≡◌, ℕ, true, false, List, Result, Ok, Err, refl}
use Rattle.nvme_wire.specs.Entry.{decode_of}
use Rattle.nvme_wire.specs.declared.command.Command.{Command}
use Rattle.nvme_wire.specs.declared.command.Command.TheVariants.{Flush, Read, Write, Append, Send, Receive}
use Rattle.nvme_wire.specs.declared.command.DecodeFault.{DecodeFault}
use Rattle.zone_states.specs.Zone.{Zone}
use Rattle.zone_states.specs.declared.geometry.Geometry.{Geometry}
use Rattle.drive_port.specs.Step.{outcome}
use Rattle.zone_drive.specs.declared.habit.Habit.{Habit}
use Rattle.zone_drive.specs.Choice.{performed}
use Rattle.zone_drive.specs.Foreseen.{foreseen}
use Rattle.zone_drive.specs.Habits.{MemoryDrive}
use Rattle.drive_journal.specs.Change.{beside_bytes}

outcome-data : (geometry : Geometry) (zones : List Zone) (command : Result Command DecodeFault) (bytes : List ℕ)
    → outcome geometry zones command (beside_bytes command bytes) ≡ outcome geometry zones command bytes
unfolding outcome
outcome-data geometry zones (Err fault) bytes = refl
outcome-data geometry zones (Ok Flush) bytes = refl
outcome-data geometry zones (Ok (Read slba blocks)) bytes = refl
outcome-data geometry zones (Ok (Write slba blocks)) bytes = refl
outcome-data geometry zones (Ok (Append zslba blocks)) bytes = refl
outcome-data geometry zones (Ok (Send slba action true)) bytes = refl
outcome-data geometry zones (Ok (Send slba action false)) bytes = refl
outcome-data geometry zones (Ok (Receive slba dwords options partial)) bytes = refl

performed-data : (habit : Habit) (geometry : Geometry) (zones : List Zone) (command : Result Command DecodeFault)
    (bytes : List ℕ)
    → performed habit geometry zones command (beside_bytes command bytes) ≡ performed habit geometry zones command bytes
performed-data habit geometry zones command bytes =
    rw (outcome-data geometry zones command bytes) (outcome-data geometry _ command bytes)

pub foreseen-data : (drive : MemoryDrive) (entry bytes : List ℕ)
    → foreseen drive entry (beside_bytes (decode_of entry) bytes) ≡ foreseen drive entry bytes
foreseen-data drive entry bytes =
    performed-data drive.habit drive.state.geometry drive.state.zones (decode_of entry) bytes
