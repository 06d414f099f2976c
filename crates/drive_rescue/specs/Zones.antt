-- What a host can read of a drive, zone by zone.
use Rattle.std.specs.Prelude.{◌≡◌, ℕ, if◌then◌else◌, Bool, true, false, List, [], ◌++◌, map, length, take, Some, slice_get, slice_index_or}
use Rattle.nvme_wire.specs.declared.zone_state.ZoneState.{ZoneState}
use Rattle.nvme_wire.specs.declared.zone_state.ZoneState.TheVariants as states
use Rattle.zone_states.specs.declared.geometry.Geometry.{Geometry}
use Rattle.zone_states.specs.Zone.{Zone}
use Rattle.drive_port.specs.Drive.{DriveState}
use Rattle.drive_array.specs.ZoneLogs.{padding}
use Rattle.drive_survey.specs.declared.reported.ReportedZone.{ReportedZone}

-- A zone of which a report does not tell how far it was written. It is read up to its capacity, and ends in zeros.
abbrev pub is_padded : ZoneState → Bool
is_padded states.Full = true
is_padded states.ReadOnly = true
is_padded state = false

abbrev pub is_offline : ZoneState → Bool
is_offline states.Offline = true
is_offline state = false

-- Nothing tells where its written blocks end: not a report, and no zeros that a Finish left.
abbrev pub is_open_ended : ZoneState → Bool
is_open_ended states.ReadOnly = true
is_open_ended state = false

-- A zone as a host can read it: not at all if it is Offline; else its written blocks and, if it is padded, zeros.
pub record ReadZone : Type 0 where
  pub offline : Bool
  pub padded : Bool
  pub open_ended : Bool
  pub blocks : List (List ℕ)

abbrev pub read_blocks : Geometry → ZoneState → List (List ℕ) → List (List ℕ)
read_blocks geometry state blocks =
    if is_offline state then [] else blocks ++ padding geometry (is_padded state) (length blocks)

abbrev pub read_zone : Geometry → Zone → ReadZone
read_zone geometry zone = record {
  offline = is_offline zone.state;
  padded = is_padded zone.state;
  open_ended = is_open_ended zone.state;
  blocks = read_blocks geometry zone.state zone.blocks;
}

abbrev pub read_zones : DriveState → List ReadZone
read_zones drive = map (read_zone drive.geometry) drive.zones

-- the zone with a number; past the last one a zone with no block
abbrev pub no_zone : ReadZone
no_zone = record { offline = true; padded = false; open_ended = false; blocks = [] }

abbrev pub zone_with : List ReadZone → ℕ → ReadZone
zone_with zones number = slice_index_or zones number no_zone

abbrev pub block_with : List ReadZone → ℕ → ℕ → List ℕ
block_with zones number offset = slice_index_or (zone_with zones number).blocks offset []

-- an open-ended zone up to a block
abbrev pub cut : ReadZone → ℕ → ReadZone
cut zone end =
    if zone.open_ended then record { offline = zone.offline; padded = false; open_ended = true; blocks = take end zone.blocks }
    else zone

-- ---- as a report tells it

-- how many blocks of a zone can be read
abbrev pub blocks_told : ℕ → ReportedZone → ℕ
blocks_told capacity reported =
    if is_offline reported.state then 0 else (if is_padded reported.state then capacity else reported.blocks)

-- A zone is reported as it can be read.
pub record TellsZone (capacity : ℕ) (zone : ReadZone) (reported : ReportedZone) : Type 0 where
  pub offline : zone.offline ≡ is_offline reported.state
  pub padded : zone.padded ≡ is_padded reported.state
  pub open_ended : zone.open_ended ≡ is_open_ended reported.state
  pub blocks : length zone.blocks ≡ blocks_told capacity reported

-- All zones are reported so.
pub record TellsAll (capacity : ℕ) (zones : List ReadZone) (reported : List ReportedZone) : Type 0 where
  pub count : length reported ≡ length zones
  pub each : (number : ℕ) (one : ReportedZone) → slice_get reported number ≡ Some one → TellsZone capacity (zone_with zones number) one

-- ---- blocks that cannot be read

-- For each zone and block of it: whether a Read of it may fail.
abbrev pub Damage : Type 0
Damage = ℕ → ℕ → Bool

abbrev pub IsUndamaged : Damage → Type 0
IsUndamaged damaged = (number offset : ℕ) → damaged number offset ≡ false

-- a block of which a Read might fail is still such a block
abbrev pub Lasts : Damage → Damage → Type 0
Lasts old new = (number offset : ℕ) → old number offset ≡ true → new number offset ≡ true
