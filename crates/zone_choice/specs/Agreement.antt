-- How the tables of a mounted disk agree with its drive.
use Rattle.std.specs.Prelude.{◌≡◌, ◌⊎◌, ℕ, ◌<◌, ◌≤◌, ◌^◌, true, false, IsTrue, List, [], length}
use Rattle.std.specs.List.{AllByRecursion}
use Rattle.zone_states.specs.Geometry.{IsInRange}
use Rattle.zone_states.specs.Transition.{is_open}
use Rattle.zone_states.specs.Zone.{Zone}
use Rattle.drive_port.specs.Drive.{DriveState, IsLawful}
use Rattle.drive_port.specs.Contents.{Content, full, content_at, contents, emptied, is_writable}
use Rattle.drive_port.specs.Step.{zone_at}
use Rattle.batch_log.specs.Log.{Batch, log_size}
use Rattle.zone_choice.specs.declared.roles.Filling.{Filling}
use Rattle.drive_array.specs.Reserve.{FitsReserve, batch_most}
use Rattle.drive_array.specs.Sizes.{map_of}
use Rattle.drive_array.specs.ZoneLogs.{HasLog, drive_logs, log_at, encoded}
use Rattle.drive_array.specs.Mountable.{AreSound}
use Rattle.drive_array.specs.Repair.{HasAtMost}
use Rattle.zone_choice.specs.Roles.{AreApart, RolesView, fillings, is_empty_at, is_filling_at}
use Rattle.zone_choice.specs.Tables.{TablesView, size_of}

-- a drive, and the tables of the disk that is mounted on it
pub record MountedView : Type 0 where
  pub drive : DriveState
  pub tables : TablesView

abbrev pub mounted : DriveState → TablesView → MountedView
mounted drive tables = record { drive = drive; tables = tables }

-- ---- roles and contents

-- A zone that is being filled can be written, or is full already, up to its capacity. Its written blocks are counted,
-- and all of them belong to batches. Only a zone with some may be open.
pub record HoldsFilling (capacity : ℕ) (zones : List Content) (logs : List (List Batch)) (filling : Filling) : Type 0 where
  pub written : length (content_at zones filling.zone).blocks ≡ filling.written
  pub usage : (is_writable (content_at zones filling.zone).usage ≡ true) ⊎ (((content_at zones filling.zone).usage ≡ full) × (filling.written ≡ capacity))
  pub batches : log_size (log_at logs filling.zone) ≡ filling.written
  pub opened : filling.may_open ≡ true → 1 ≤ filling.written

-- a sealed zone is full, and has a batch
pub record IsSealed (zones : List Content) (logs : List (List Batch)) (zone : ℕ) : Type 0 where
  pub usage : (content_at zones zone).usage ≡ full
  pub has_batch : 1 ≤ length (log_at logs zone)

-- Empty zones are empty, all zones are written as their roles say.
pub record RolesAgree (capacity : ℕ) (zones : List Content) (logs : List (List Batch)) (roles : RolesView) : Type 0 where
  pub count : length roles.empty ≡ length zones
  pub apart : AreApart roles
  pub fillings_are : AllByRecursion (HoldsFilling capacity zones logs) (fillings roles)
  pub empty : (zone : ℕ) → is_empty_at roles zone ≡ true → content_at zones zone ≡ emptied
  pub sealed_are : (zone : ℕ) → zone < length zones → is_empty_at roles zone ≡ false → is_filling_at roles zone ≡ false → IsSealed zones logs zone

-- ---- which zones are open

abbrev pub IsShut : List Zone → ℕ → Type 0
IsShut zones zone = is_open (zone_at zones zone).state ≡ false

-- a zone that is being filled is open only where the tables say that it may be
abbrev pub TellsOpen : List Zone → Filling → Type 0
TellsOpen zones filling = filling.may_open ≡ false → IsShut zones filling.zone

-- the array of a mounted disk
abbrev pub mounted_array : MountedView → List (List ℕ)
mounted_array disk = encoded disk.drive disk.tables.given

-- ---- tables and drive

-- The tables describe the drive: every zone holds a log, the batches are sound, with sequences below the next one; the
-- map has the place of each block's newest record; and each zone is what its role says. No zone that is being filled has
-- a batch with more entries than ours have, and none is open unless the tables say that it may be. No data is noted as
-- unreadable while no command failed.
pub record Agrees (disk : MountedView) : Type 0 where
  pub geometry : IsInRange disk.drive.geometry
  pub reserve : FitsReserve disk.drive.geometry (size_of disk.tables)
  pub lawful : IsLawful disk.drive
  pub logs : AllByRecursion (HasLog disk.drive.geometry) (contents disk.drive.zones)
  pub sound : AreSound disk.tables.next disk.tables.given (drive_logs disk.drive)
  pub next : disk.tables.next ≤ 2 ^ 63
  pub zones : disk.tables.map.zones ≡ disk.drive.geometry.zones
  pub zone_size : disk.tables.map.zone_size ≡ disk.drive.geometry.size
  pub places : disk.tables.map.places ≡ map_of disk.drive.geometry.size disk.tables.given (drive_logs disk.drive)
  pub roles : RolesAgree disk.drive.geometry.capacity (contents disk.drive.zones) (drive_logs disk.drive) disk.tables.roles
  pub few : AllByRecursion (λ (filling : Filling). AllByRecursion (HasAtMost (batch_most disk.drive.geometry))
      (log_at (drive_logs disk.drive) filling.zone)) (fillings disk.tables.roles)
  pub open_zones : AllByRecursion (TellsOpen disk.drive.zones) (fillings disk.tables.roles)
  pub readable : IsTrue disk.drive.unfailing → disk.tables.unreadable ≡ []
