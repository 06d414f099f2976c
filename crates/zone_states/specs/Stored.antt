-- A zone as it is stored: its state, and the bytes of its written blocks, one block after the other.
use Rattle.std.specs.Prelude.{◌≡◌, ℕ, ◌*◌, ◌/◌, ◌==◌, if◌then◌else◌, List, [], ◌++◌, length, Option, Some, None, Result, Ok, Err}
use Rattle.nvme_wire.specs.declared.zone_state.ZoneState.{ZoneState}
use Rattle.nvme_wire.specs.declared.zone_state.ZoneState.TheVariants.{Full}
use Rattle.nvme_wire.specs.declared.status.Status.{Status}
use Rattle.nvme_wire.specs.declared.command.Action.{Action}
use Rattle.nvme_wire.specs.declared.command.Action.TheVariants as actions
use Rattle.zone_states.specs.declared.geometry.Geometry.{Geometry}
use Rattle.zone_states.specs.declared.zone.ZoneFault.{ZoneFault}
use Rattle.zone_states.specs.declared.zone.ZoneFault.TheVariants.{Refused}
use Rattle.zone_states.specs.Zone.{Zone, cut_blocks, opened_by_write, written_zone}

pub record StoredZone : Type 0 where
  pub state : ZoneState
  pub bytes : List ℕ

-- bytes that are whole blocks of a size
abbrev pub AreWholeBlocks : ℕ → List ℕ → Type 0
AreWholeBlocks block bytes = length bytes ≡ length bytes / block * block

-- the zone that is stored, in blocks of a size
abbrev pub zone_stored : ℕ → StoredZone → Zone
zone_stored block zone = record { state = zone.state; blocks = cut_blocks block (length zone.bytes / block) zone.bytes }

-- a zone with these bytes written after its own: it is Full where its blocks reach the capacity
abbrev pub stored_write : Geometry → StoredZone → List ℕ → StoredZone
stored_write geometry zone bytes =
    let all = zone.bytes ++ bytes in
    record { state = if length all / geometry.block == geometry.capacity then Full else opened_by_write zone.state; bytes = all }

-- In blocks: those of these bytes are after the zone's, and its bytes are whole blocks again.
pub record WrittenAfter (geometry : Geometry) (old : StoredZone) (bytes : List ℕ) (new : StoredZone) : Type 0 where
  pub zone : zone_stored geometry.block new ≡ written_zone geometry.capacity (zone_stored geometry.block old)
      (cut_blocks geometry.block (length bytes / geometry.block) bytes)
  pub whole : AreWholeBlocks geometry.block new.bytes

-- the bytes that an action leaves: a Reset takes them away
abbrev pub bytes_after : Action → List ℕ → List ℕ
bytes_after actions.Reset bytes = []
bytes_after action bytes = bytes

abbrev pub stored_after : Action → StoredZone → Result ZoneState Status → StoredZone
stored_after action zone (Ok state) = record { state = state; bytes = bytes_after action zone.bytes }
stored_after action zone (Err status) = zone

-- what is answered where an action leads to a state, or to none
abbrev pub apply_result : Result ZoneState Status → Result (Unit {0}) ZoneFault
apply_result (Ok state) = Ok tt
apply_result (Err status) = Err (Refused status)

-- the status with which a call was refused, if it was
abbrev pub refusal_of : {V : Type 0} → Result V ZoneFault → Option Status
refusal_of (Err (Refused status)) = Some status
refusal_of result = None
