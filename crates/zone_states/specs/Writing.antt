-- The checks of a Write or an Append to one zone, in order. The checks of the limits on active and open zones come after them, and are the drive's.
use Rattle.std.specs.Prelude.{ℕ, ◌+◌, ◌*◌, ◌/◌, ◌==◌, nat_lt, not, Bool, List, [], ◌∷◌, ◌++◌, length}
use Rattle.nvme_wire.specs.declared.zone_state.ZoneState.TheVariants as states
use Rattle.nvme_wire.specs.declared.status.Status.{Status}
use Rattle.nvme_wire.specs.declared.status.Status.TheVariants.{InvalidField, ZoneBoundaryError, ZoneIsFull, ZoneIsReadOnly, ZoneIsOffline, ZoneInvalidWrite}
use Rattle.zone_states.specs.declared.geometry.Geometry.{Geometry}
use Rattle.zone_states.specs.Transition.{is_state}
use Rattle.zone_states.specs.Zone.{Zone}

-- the fields that a Write or an Append shares: no more blocks than one transfer, and data of just these blocks
abbrev pub data_checks : Geometry → ℕ → List ℕ → List (Bool × Status)
data_checks geometry blocks bytes =
    (nat_lt geometry.transfer blocks, InvalidField)
    ∷ (not (length bytes == blocks * geometry.block), InvalidField)
    ∷ []

-- a zone that can't be written
abbrev pub state_checks : Zone → List (Bool × Status)
state_checks zone =
    (is_state states.Full zone.state, ZoneIsFull)
    ∷ (is_state states.ReadOnly zone.state, ZoneIsReadOnly)
    ∷ (is_state states.Offline zone.state, ZoneIsOffline)
    ∷ []

-- room for that many blocks below the capacity
abbrev pub room_checks : Geometry → Zone → ℕ → List (Bool × Status)
room_checks geometry zone blocks = (nat_lt geometry.capacity (length zone.blocks + blocks), ZoneBoundaryError) ∷ []

-- the blocks go to the write pointer
abbrev pub pointer_checks : Zone → ℕ → List (Bool × Status)
pointer_checks zone offset = (not (offset == length zone.blocks), ZoneInvalidWrite) ∷ []

-- an Append of that many blocks to a zone
abbrev pub zone_append_checks : Geometry → Zone → ℕ → List (Bool × Status)
zone_append_checks geometry zone blocks = state_checks zone ++ room_checks geometry zone blocks

-- a Write of that many blocks to a zone, from an offset in blocks on
abbrev pub zone_write_checks : Geometry → Zone → ℕ → ℕ → List (Bool × Status)
zone_write_checks geometry zone offset blocks = state_checks zone ++ pointer_checks zone offset ++ room_checks geometry zone blocks

-- an Append, and a Write, of these bytes
abbrev pub append_bytes_checks : Geometry → Zone → List ℕ → List (Bool × Status)
append_bytes_checks geometry zone bytes =
    let blocks = length bytes / geometry.block in
    data_checks geometry blocks bytes ++ zone_append_checks geometry zone blocks

abbrev pub write_bytes_checks : Geometry → Zone → ℕ → List ℕ → List (Bool × Status)
write_bytes_checks geometry zone offset bytes =
    let blocks = length bytes / geometry.block in
    data_checks geometry blocks bytes ++ zone_write_checks geometry zone offset blocks
