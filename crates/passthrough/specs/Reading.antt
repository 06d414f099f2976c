-- What a Read asks of the drive, and what is read.
use Rattle.std.specs.Prelude.{◌≡◌, ◌⊎◌, ℕ, ◌+◌, ◌-◌, ◌*◌, ◌/◌, ◌%◌, ◌≤◌, false, List, [], ◌++◌, length, drop, Ok}
use Rattle.nvme_wire.specs.declared.command.Command.TheVariants.{Read}
use Rattle.nvme_wire.specs.declared.status.Status.TheVariants.{Success}
use Rattle.nvme_wire.specs.declared.zone_state.ZoneState.TheVariants.{Offline}
use Rattle.zone_states.specs.declared.geometry.Geometry.{Geometry}
use Rattle.zone_states.specs.Transition.{is_state}
use Rattle.zone_states.specs.Zone.{Zone}
use Rattle.drive_port.specs.Step.{Effect, end_of}
use Rattle.passthrough.specs.Premise.{IsSentRead, zone_of}

-- a Read is not refused, and the drive is asked for the first blocks of it: the others are not written
pub record IsAskedFor (geometry : Geometry) (zones : List Zone) (address blocks count end : ℕ) : Type 0 where
  pub transfer : blocks ≤ geometry.transfer
  pub in_range : address + blocks ≤ end_of geometry
  pub one_zone : address / geometry.size ≡ (address + blocks - 1) / geometry.size
  pub readable : is_state Offline (zone_of geometry zones address).state ≡ false
  pub few : count ≤ blocks
  pub sent : 1 ≤ count → IsSentRead geometry zones address count end (count * geometry.block)
  pub rest : (count ≡ blocks) ⊎ (length (zone_of geometry zones address).blocks ≤ address % geometry.size + count)

-- the bytes of the first blocks of a Read, if it has some
abbrev pub GivesFront : Geometry → List Zone → ℕ → ℕ → List ℕ → List Zone → Type 0
GivesFront geometry old address count front new =
    ((count ≡ 0) × (front ≡ []) × (new ≡ old)) ⊎ Effect geometry old (Ok (Read address count)) [] Success 0 front new

-- they were read into the front of a room
pub record ReadsFront (geometry : Geometry) (old : List Zone) (address count : ℕ) (before after : List ℕ)
    (new : List Zone) : Type 0 where
  pub front : List ℕ
  pub joined : after ≡ front ++ drop (count * geometry.block) before
  pub gives : GivesFront geometry old address count front new
