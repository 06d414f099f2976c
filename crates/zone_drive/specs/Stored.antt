-- How a drive is stored, and what a fresh one holds.
use Rattle.std.specs.Prelude.{◌≡◌, ℕ, ◌-◌, ◌/◌, ◌%◌, ◌≤◌, ◌==◌, nat_lt, nat_le, ◌&&◌, Bool, true, false, List, [], ◌++◌, map, length, take, replicate}
use Rattle.std.specs.List.{AllByRecursion}
use Rattle.nvme_wire.specs.declared.zone_state.ZoneState.{ZoneState}
use Rattle.nvme_wire.specs.declared.zone_state.ZoneState.TheVariants.{Empty, ImplicitlyOpened, ExplicitlyOpened, Closed}
use Rattle.zone_states.specs.declared.geometry.Geometry.{Geometry}
use Rattle.zone_states.specs.Zone.{Zone, IsLawfulZone}
use Rattle.zone_states.specs.Stored.{StoredZone, AreWholeBlocks, zone_stored}
use Rattle.drive_port.specs.Drive.{DriveState, active_count, open_count}

-- the zones that are stored, in blocks of a size
abbrev pub zones_of : ℕ → List StoredZone → List Zone
zones_of block zones = map (zone_stored block) zones

-- the first bytes, with zeros where there are fewer
abbrev pub with_zeros : ℕ → List ℕ → List ℕ
with_zeros long bytes = take long bytes ++ replicate (long - length bytes) 0

-- a drive of these zones, which has completed no command, and it says nothing of a loss of power
abbrev pub unused : Geometry → List Zone → DriveState
unused geometry zones = record { geometry = geometry; zones = zones; durable = []; completed = 0; refused = 0; appended = 0; stopped = false; clean = true; unfailing = true }

-- a drive in which nothing was ever written
abbrev pub fresh : Geometry → DriveState
fresh geometry = unused geometry (replicate geometry.zones (record { state = Empty; blocks = [] }))

-- Zones that a drive of this geometry can have: as many as it has, each with whole blocks, as many as its state allows,
-- and no more of them active and open than may be.
pub record AreZones (geometry : Geometry) (zones : List StoredZone) : Type 0 where
  pub count : length zones ≡ geometry.zones
  pub whole : AllByRecursion (λ zone. AreWholeBlocks geometry.block zone.bytes) zones
  pub lawful : AllByRecursion (IsLawfulZone geometry) (zones_of geometry.block zones)
  pub active : active_count (zones_of geometry.block zones) ≤ geometry.active
  pub open_zones : open_count (zones_of geometry.block zones) ≤ geometry.open

-- the same of one zone, as a test
abbrev pub may_hold : ZoneState → ℕ → ℕ → Bool
may_hold Empty capacity written = written == 0
may_hold ImplicitlyOpened capacity written = nat_lt written capacity
may_hold ExplicitlyOpened capacity written = nat_lt written capacity
may_hold Closed capacity written = nat_lt written capacity
may_hold state capacity written = nat_le written capacity

abbrev pub is_lawful : Geometry → StoredZone → Bool
is_lawful geometry zone = length zone.bytes % geometry.block == 0 && may_hold zone.state geometry.capacity (length zone.bytes / geometry.block)
