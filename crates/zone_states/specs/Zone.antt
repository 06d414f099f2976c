-- A zone: its state, and the list of its written blocks. The write pointer is the length of the list.
use Rattle.std.specs.Prelude.{◌≡◌, ℕ, zero, suc, ◌<◌, ◌≤◌, ◌==◌, if◌then◌else◌, List, [], ◌∷◌, ◌++◌, length, take, drop}
use Rattle.std.specs.List.{AllByRecursion}
use Rattle.nvme_wire.specs.declared.zone_state.ZoneState.{ZoneState}
use Rattle.nvme_wire.specs.declared.zone_state.ZoneState.TheVariants.{Empty, ImplicitlyOpened, ExplicitlyOpened, Closed, Full}
use Rattle.zone_states.specs.declared.geometry.Geometry.{Geometry}

pub record Zone : Type 0 where
  pub state : ZoneState
  pub blocks : List (List ℕ)

-- how many blocks may be written in a zone of this state
abbrev pub MayHold : ZoneState → ℕ → ℕ → Type 0
MayHold Empty capacity written = written ≡ 0
MayHold ImplicitlyOpened capacity written = written < capacity
MayHold ExplicitlyOpened capacity written = written < capacity
MayHold Closed capacity written = written < capacity
MayHold state capacity written = written ≤ capacity

pub record IsLawfulZone (geometry : Geometry) (zone : Zone) : Type 0 where
  pub written : MayHold zone.state geometry.capacity (length zone.blocks)
  pub whole : AllByRecursion (λ block. length block ≡ geometry.block) zone.blocks

-- what a Write or an Append leaves of a state: an Empty or Closed zone is implicitly opened
abbrev pub opened_by_write : ZoneState → ZoneState
opened_by_write Empty = ImplicitlyOpened
opened_by_write Closed = ImplicitlyOpened
opened_by_write state = state

-- a zone with these blocks written after its own: it is Full where they reach the capacity
abbrev pub written_zone : ℕ → Zone → List (List ℕ) → Zone
written_zone capacity zone blocks =
    let all = zone.blocks ++ blocks in
    record { state = if length all == capacity then Full else opened_by_write zone.state; blocks = all }

-- a list of bytes cut into blocks of a size, that many of them
abbrev pub cut_blocks : ℕ → ℕ → List ℕ → List (List ℕ)
cut_blocks size zero bytes = []
cut_blocks size (suc count) bytes = take size bytes ∷ cut_blocks size count (drop size bytes)
