-- The image of a drive: its geometry, and then its zones with their written blocks. Numbers are little-endian.
use Rattle.std.specs.Prelude.{◌≡◌, ℕ, ◌≤◌, List, [], ◌∷◌, ◌++◌, length, replicate}
use Rattle.std.specs.List.{AllByRecursion, concat, flat_map}
use Rattle.byteorder.specs.Endian.{little_bytes}
use Rattle.nvme_wire.specs.Descriptor.{state_code}
use Rattle.nvme_wire.specs.declared.zone_state.ZoneState.{ZoneState}
use Rattle.zone_states.specs.Geometry.{IsInRange}
use Rattle.zone_states.specs.Zone.{Zone, IsLawfulZone}
use Rattle.zone_states.specs.declared.geometry.Geometry.{Geometry}
use Rattle.zone_drive.specs.Stored.{unused}
use Rattle.drive_port.specs.Drive.{DriveState, active_count, open_count}

-- `ZNSIMG01`
abbrev pub image_magic : List ℕ
image_magic = 0x5a ∷ 0x4e ∷ 0x53 ∷ 0x49 ∷ 0x4d ∷ 0x47 ∷ 0x30 ∷ 0x31 ∷ []

-- the 64 bytes at the start
unfoldable pub head_bytes : Geometry → List ℕ
head_bytes g =
    image_magic ++ little_bytes 4 g.block ++ little_bytes 4 g.zones ++ little_bytes 4 g.size ++ little_bytes 4 g.capacity
    ++ little_bytes 4 g.transfer ++ little_bytes 4 g.active ++ little_bytes 4 g.open ++ replicate 28 0

-- the 8 bytes before the written blocks of a zone: its state, and how many they are
unfoldable pub zone_head_bytes : ZoneState → ℕ → List ℕ
zone_head_bytes state written = state_code state ∷ 0 ∷ 0 ∷ 0 ∷ little_bytes 4 written

abbrev pub zone_bytes : Zone → List ℕ
zone_bytes zone = zone_head_bytes zone.state (length zone.blocks) ++ concat zone.blocks

abbrev pub zones_bytes : List Zone → List ℕ
zones_bytes zones = flat_map zone_bytes zones

abbrev pub image_bytes : Geometry → List Zone → List ℕ
image_bytes geometry zones = head_bytes geometry ++ zones_bytes zones

-- A drive of this geometry may begin with these zones: each holds as many whole blocks as its state allows, and no more
-- of them are active and open than may be.
pub record MayBegin (geometry : Geometry) (zones : List Zone) : Type 0 where
  pub lawful : AllByRecursion (IsLawfulZone geometry) zones
  pub active : active_count zones ≤ geometry.active
  pub open_zones : open_count zones ≤ geometry.open

-- These bytes are the image of this drive, which has completed no command since it was restarted.
pub record IsImage (bytes : List ℕ) (drive : DriveState) : Type 0 where
  pub text : bytes ≡ image_bytes drive.geometry drive.zones
  pub geometry : IsInRange drive.geometry
  pub zones : MayBegin drive.geometry drive.zones
  pub count : length drive.zones ≡ drive.geometry.zones
  pub unused : drive ≡ unused drive.geometry drive.zones
