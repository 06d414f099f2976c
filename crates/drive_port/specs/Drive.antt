-- What a drive holds and has counted, and what its controller may do by itself.
use Rattle.std.specs.Prelude.{◌≡◌, ◌⊎◌, ℕ, ◌<◌, ◌≤◌, ◌^◌, Bool, true, List, [], ◌∷◌, length, count_by}
use Rattle.std.specs.List.{AllByRecursion}
use Rattle.nvme_wire.specs.declared.zone_state.ZoneState.TheVariants.{ImplicitlyOpened, Closed}
use Rattle.zone_states.specs.declared.geometry.Geometry.{Geometry}
use Rattle.zone_states.specs.Transition.{is_active, is_open}
use Rattle.zone_states.specs.Zone.{Zone, IsLawfulZone}

-- The state of a drive: its zones, and what the proofs count. `completed` counts the commands completed since the drive
-- was made or restarted, `refused` those of them with a status other than Success, and `appended` the Appends that
-- succeeded. `durable` has the zones that a loss of power may leave: those of a restarted drive, one list for each way
-- that it may end. A drive that says nothing of a loss of power has no list.
pub record DriveState : Type 0 where
  pub geometry : Geometry
  pub zones : List Zone
  pub durable : List (List Zone)
  pub completed : ℕ
  pub refused : ℕ
  pub appended : ℕ
  pub stopped : Bool
  -- each Read returned what the drive holds. It may fall at a Read, never rises, and no code can tell
  pub clean : Bool
  -- no command failed. It falls where one does, and never rises
  pub unfailing : Bool

abbrev pub active_count : List Zone → ℕ
active_count zones = count_by (λ zone. is_active zone.state) zones

abbrev pub open_count : List Zone → ℕ
open_count zones = count_by (λ zone. is_open zone.state) zones

-- each number of a geometry is one of 32 bits
pub record IsStorable (geometry : Geometry) : Type 0 where
  pub block : geometry.block < 2 ^ 32
  pub zones : geometry.zones < 2 ^ 32
  pub size : geometry.size < 2 ^ 32
  pub capacity : geometry.capacity < 2 ^ 32
  pub transfer : geometry.transfer < 2 ^ 32
  pub active : geometry.active < 2 ^ 32
  pub open_zones : geometry.open < 2 ^ 32

-- There are as many zones as the geometry says, each holds what its state allows, the limits on active and open zones
-- are kept, and a drive that has completed 2^63 commands has stopped.
pub record IsLawful (drive : DriveState) : Type 0 where
  pub geometry : IsStorable drive.geometry
  pub count : length drive.zones ≡ drive.geometry.zones
  pub zones : AllByRecursion (IsLawfulZone drive.geometry) drive.zones
  pub active : active_count drive.zones ≤ drive.geometry.active
  pub open_zones : open_count drive.zones ≤ drive.geometry.open
  pub completed : drive.completed ≤ 2 ^ 63
  pub stopped : drive.completed ≡ 2 ^ 63 → drive.stopped ≡ true

-- a zone, and the same zone after the controller may have closed it
pub record ClosesOne (old new : Zone) : Type 0 where
  pub blocks : new.blocks ≡ old.blocks
  pub state : (new.state ≡ old.state) ⊎ ((old.state ≡ ImplicitlyOpened) × (new.state ≡ Closed))

-- any set of the implicitly opened zones of the first is closed in the second
abbrev pub IsClosing : List Zone → List Zone → Type 0
IsClosing [] [] = Unit {0}
IsClosing (old ∷ olds) (new ∷ news) = ClosesOne old new × IsClosing olds news
IsClosing [] (new ∷ news) = ⊥
IsClosing (old ∷ olds) [] = ⊥
