-- What a Zone Management Send to one zone meets before its resources are looked at, and what an Open does.
use Rattle.std.specs.Prelude.{◌≡◌, ℕ, ◌%◌, ◌==◌, nat_le, not, Bool, List, [], ◌∷◌, slice_set, Option, Some, None, Ok, Err}
use Rattle.nvme_wire.specs.declared.command.Action.{Action}
use Rattle.nvme_wire.specs.declared.command.Action.TheVariants.{Open}
use Rattle.nvme_wire.specs.declared.status.Status.{Status}
use Rattle.nvme_wire.specs.declared.status.Status.TheVariants.{InvalidField, InvalidZoneStateTransition, LbaOutOfRange}
use Rattle.zone_states.specs.declared.geometry.Geometry.{Geometry}
use Rattle.zone_states.specs.Sending.{zone_after}
use Rattle.zone_states.specs.Transition.{state_after}
use Rattle.zone_states.specs.Zone.{Zone}
use Rattle.drive_port.specs.Step.{end_of, is_refusal, zone_at}
use Rattle.zone_drive.specs.Choice.{RoomGives, with_room}
use Rattle.zone_drive.specs.Habits.{MemoryDrive, with_zones}

-- the checks of an action on one zone, without the resources' checks
abbrev pub send_first : Geometry → Zone → ℕ → Action → List (Bool × Status)
send_first geometry zone slba action =
    (not (slba % geometry.size == 0), InvalidField)
    ∷ (nat_le (end_of geometry) slba, LbaOutOfRange)
    ∷ (is_refusal (state_after zone.state action), InvalidZoneStateTransition)
    ∷ []

-- the zones after an action on one of them
abbrev pub sent_to : List Zone → ℕ → Action → List Zone
sent_to zones index action =
    let zone = zone_at zones index in
    slice_set zones index (zone_after action zone (state_after zone.state action))

-- The zone is opened, where it has the resources that it needs; else nothing changes.
abbrev pub Opens : MemoryDrive → ℕ → Option Status → MemoryDrive → Type 0
Opens old index (Some status) new = RoomGives old.habit old.state.geometry old.state.zones (zone_at old.state.zones index) (Err status) × (new ≡ old)
Opens old index None new =
    (closing : Option ℕ)
    × RoomGives old.habit old.state.geometry old.state.zones (zone_at old.state.zones index) (Ok closing)
    × (new ≡ with_zones old (sent_to (with_room old.state.zones closing) index Open))
