-- What a Write or an Append meets before its resources are looked at.
use Rattle.std.specs.Prelude.{◌≡◌, ℕ, ◌+◌, ◌/◌, ◌%◌, ◌==◌, nat_lt, nat_le, not, Bool, List, ◌∷◌, ◌++◌, length, Option, Some, None, Ok, Err}
use Rattle.nvme_wire.specs.declared.status.Status.{Status}
use Rattle.nvme_wire.specs.declared.status.Status.TheVariants.{InvalidField, LbaOutOfRange}
use Rattle.zone_states.specs.declared.geometry.Geometry.{Geometry}
use Rattle.zone_states.specs.Writing.{data_checks, zone_append_checks, zone_write_checks}
use Rattle.zone_states.specs.Zone.{Zone}
use Rattle.drive_port.specs.Step.{end_of, write_effect, zone_at}
use Rattle.zone_drive.specs.Choice.{RoomGives, with_room}
use Rattle.zone_drive.specs.Habits.{MemoryDrive, with_zones}

-- the checks of an Append, without the resources' checks
abbrev pub append_first : Geometry → Zone → ℕ → ℕ → List ℕ → List (Bool × Status)
append_first geometry zone zslba blocks bytes =
    data_checks geometry blocks bytes
    ++ (not (zslba % geometry.size == 0), InvalidField)
    ∷ (nat_le (end_of geometry) zslba, LbaOutOfRange)
    ∷ zone_append_checks geometry zone blocks

-- the checks of a Write, without the resources' checks
abbrev pub write_first : Geometry → Zone → ℕ → ℕ → List ℕ → List (Bool × Status)
write_first geometry zone slba blocks bytes =
    data_checks geometry blocks bytes
    ++ (nat_lt (end_of geometry) (slba + blocks), LbaOutOfRange)
    ∷ zone_write_checks geometry zone (slba % geometry.size) blocks

-- These blocks come after the zone's, where there are resources for it; else nothing changes.
abbrev pub WritesAfter : MemoryDrive → ℕ → List ℕ → Option Status → MemoryDrive → Type 0
WritesAfter old index bytes (Some status) new =
    RoomGives old.habit old.state.geometry old.state.zones (zone_at old.state.zones index) (Err status) × (new ≡ old)
WritesAfter old index bytes None new =
    (closing : Option ℕ)
    × RoomGives old.habit old.state.geometry old.state.zones (zone_at old.state.zones index) (Ok closing)
    × (new ≡ with_zones old (write_effect old.state.geometry (with_room old.state.zones closing) index (length bytes / old.state.geometry.block) bytes))
