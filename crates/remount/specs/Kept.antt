-- What the commands of a mount keep of a drive.
use Rattle.std.specs.Prelude.{◌≡◌, ◌≢◌, ◌⊎◌, ◌<◌, ◌≤◌, ◌^◌, ℕ, true, IsTrue, List, [], length, slice_get, Some}
use Rattle.std.specs.List.{AllByRecursion}
use Rattle.nvme_wire.specs.declared.zone_state.ZoneState.TheVariants.{Empty}
use Rattle.zone_states.specs.declared.geometry.Geometry.{Geometry}
use Rattle.zone_states.specs.Transition.{is_open}
use Rattle.drive_port.specs.Drive.{DriveState, IsLawful}
use Rattle.batch_log.specs.Log.{Batch}
use Rattle.drive_array.specs.Spare.{IsVacant}
use Rattle.drive_array.specs.ZoneLogs.{drive_logs, log_at, encoded}
use Rattle.drive_array.specs.Mountable.{IsMountable}
use Rattle.zone_choice.specs.declared.roles.Filling.{Filling}
use Rattle.zone_choice.specs.Roles.{fillings}
use Rattle.zone_choice.specs.Tables.{AreOfOneDrive, TablesView, size_of}
use Rattle.drive_survey.specs.declared.reported.ReportedZone.{ReportedZone}
use Rattle.drive_survey.specs.declared.survey.Survey.{Survey}
use Rattle.drive_survey.specs.Scan.{AreKnown}

-- each zone that is vacant in these logs was reported Empty
abbrev pub AreVacantEmpty : List ReportedZone → List (List Batch) → Type 0
AreVacantEmpty reported logs = (zone : ℕ) (r : ReportedZone) → slice_get reported zone ≡ Some r → log_at logs zone ≡ [] → r.state ≡ Empty

-- What a command of the mount's repairs keeps: no command is refused, and a drive that can be mounted can still be, with the same array.
pub record KeepsMountable (n : ℕ) (old new : DriveState) : Type 0 where
  pub geometry : new.geometry ≡ old.geometry
  pub lawful : IsLawful new
  pub refused : new.refused ≡ old.refused
  pub durable : new.durable ≡ old.durable
  pub mountable : IsMountable old n → IsMountable new n
  pub array : IsMountable old n → encoded new n ≡ encoded old n

-- What the commands of a mount keep whatever the Reads returned.
pub record Stays (old new : DriveState) : Type 0 where
  pub geometry : new.geometry ≡ old.geometry
  pub lawful : IsLawful new
  pub trusted : IsTrue new.clean → IsTrue old.clean
  pub unfailing : IsTrue new.unfailing → IsTrue old.unfailing

-- The report is true of all zones, and each of them was looked at.
pub record Fits (drive : DriveState) (survey : Survey) : Type 0 where
  pub zones : AreKnown drive survey.zones.items
  pub scanned : length survey.scanned.items ≡ length survey.zones.items

-- as many zones are surveyed
pub record SameLengths (before after : Survey) : Type 0 where
  pub zones : length after.zones.items ≡ length before.zones.items
  pub scanned : length after.scanned.items ≡ length before.scanned.items

-- The report is still true of all zones, of which there are as many.
pub record FitsStill (drive : DriveState) (before after : Survey) : Type 0 where
  pub fits : Fits drive after
  pub count : length after.zones.items ≡ length before.zones.items

-- ---- which zones are noted as open

abbrev pub IsNotedOpen : List ReportedZone → ℕ → Type 0
IsNotedOpen reported zone = (r : ReportedZone) × (slice_get reported zone ≡ Some r) × (is_open r.state ≡ true)

-- each zone that is noted as open was noted so before
abbrev pub NotesNoneOpen : List ReportedZone → List ReportedZone → Type 0
NotesNoneOpen before after = (zone : ℕ) → IsNotedOpen after zone → IsNotedOpen before zone

-- or it had no batch, and has one now
abbrev pub NotesFilledOpen : DriveState → DriveState → List ReportedZone → List ReportedZone → Type 0
NotesFilledOpen old new before after =
    (zone : ℕ) → IsNotedOpen after zone
    → IsNotedOpen before zone ⊎ (IsVacant (drive_logs old) zone × (log_at (drive_logs new) zone ≢ []))

-- ---- what holds of the tables whatever the Reads returned

-- each zone is noted with at most this many blocks
abbrev pub AreShort : ℕ → List ReportedZone → Type 0
AreShort capacity reported = (zone : ℕ) (r : ReportedZone) → slice_get reported zone ≡ Some r → r.blocks ≤ capacity

-- a zone that is being filled is one of the drive's, and no fuller than a zone can be
abbrev pub IsWithin : Geometry → Filling → Type 0
IsWithin geometry filling = (filling.zone < geometry.zones) × (filling.written ≤ geometry.capacity)

-- the numbers of tables that a disk rests on to send what no drive refuses
pub record AreSane (geometry : Geometry) (tables : TablesView) : Type 0 where
  pub one_drive : AreOfOneDrive tables.map tables.roles
  pub zones : tables.map.zones ≡ geometry.zones
  pub short : size_of tables ≤ 2 ^ 31
  pub next : tables.next ≤ 2 ^ 63
  pub fillings_are : AllByRecursion (IsWithin geometry) (fillings tables.roles)
  pub readable : tables.unreadable ≡ []
