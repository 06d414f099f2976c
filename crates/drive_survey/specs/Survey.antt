-- Which drives a mount continues with, once it has read all headers, and why it refuses others.
use Rattle.std.specs.Prelude.{◌≡◌, ◌⊎◌, ℕ, ◌<◌, ◌≤◌, ◌^◌, ◌==◌, ◌&&◌, not, Bool, true, false, List, [], ◌∷◌, length, count_by, slice_get, Option, Some, None}
use Rattle.std.specs.List.{AllByRecursion}
use Rattle.zone_states.specs.declared.geometry.Geometry.{Geometry}
use Rattle.zone_states.specs.Geometry.{IsInRange}
use Rattle.zone_states.specs.Transition.{is_open}
use Rattle.zone_choice.specs.Agreement.{IsShut}
use Rattle.drive_port.specs.Contents.{Content, content_at, contents, is_active_usage, is_usable, usage_of}
use Rattle.drive_port.specs.Drive.{DriveState}
use Rattle.drive_array.specs.Mountable.{AreSound, IsInside, is_partly_written}
use Rattle.drive_array.specs.Reserve.{FitsReserve}
use Rattle.drive_array.specs.Sizes.{encoded_size, larger}
use Rattle.drive_array.specs.ZoneLogs.{HasLog, zone_logs}
use Rattle.drive_survey.specs.declared.fault.MountFault.{MountFault}
use Rattle.drive_survey.specs.declared.fault.MountFault.TheVariants.{Reserve, Limits, ZoneUnusable, BlockOutOfRange, TooManyPartial}
use Rattle.drive_survey.specs.declared.fault.MountFault.TheVariants.{NoSpare, Halted, OutOfMemory, TornZone, Damaged, Failed}
use Rattle.drive_survey.specs.declared.reported.ReportedZone.{ReportedZone}
use Rattle.drive_survey.specs.declared.scan.ScannedZone.{ScannedZone}
use Rattle.drive_survey.specs.declared.survey.Survey.{Survey}
use Rattle.drive_survey.specs.Heads.{HeadsView}
use Rattle.drive_survey.specs.Scan.{AreKnown, FailsFirst, HaveNoFault, ScansAll}

-- the lowest zone that is Read Only or Offline
pub record IsLowestUnusable (zones : List Content) (zone : ℕ) : Type 0 where
  pub in_range : zone < length zones
  pub unusable : is_usable (content_at zones zone).usage ≡ false
  pub lowest : (other : ℕ) → other < zone → is_usable (content_at zones other).usage ≡ true

abbrev pub AreUsable : List Content → Type 0
AreUsable zones = AllByRecursion (λ (zone : Content). is_usable zone.usage ≡ true) zones

-- Only then a command is sent: the geometry is in range, and the reserve allows the number that was given.
pub record MayAsk (drive : DriveState) (n : ℕ) : Type 0 where
  pub geometry : IsInRange drive.geometry
  pub reserve : FitsReserve drive.geometry n

-- The headers of a drive are read, as n logical blocks if no header says how many: the geometry and n are in range,
-- no zone is Read Only or Offline, and at most two are partly written.
pub record CanScan (drive : DriveState) (n : ℕ) : Type 0 where
  pub geometry : IsInRange drive.geometry
  pub reserve : FitsReserve drive.geometry n
  pub usable : AreUsable (contents drive.zones)
  pub few : count_by is_partly_written (contents drive.zones) ≤ 2

-- all zones hold logs, and no batch has a fault
pub record HoldLogs (geometry : Geometry) (zones : List Content) : Type 0 where
  pub logs : AllByRecursion (HasLog geometry) zones
  pub none : HaveNoFault [] (zone_logs geometry zones)

-- how many logical blocks the drive has
abbrev pub drive_size : DriveState → ℕ → ℕ
drive_size drive n = encoded_size n (zone_logs drive.geometry (contents drive.zones))

-- all batches name blocks below the size
abbrev pub AreInside : DriveState → ℕ → Type 0
AreInside drive n = AllByRecursion (AllByRecursion (IsInside (drive_size drive n))) (zone_logs drive.geometry (contents drive.zones))

-- Why a drive is refused: the first fault, in the order in which a mount looks for them.
abbrev pub SurveyFails : DriveState → ℕ → MountFault → Type 0
SurveyFails drive n Limits = IsInRange drive.geometry → ⊥
SurveyFails drive n Reserve =
    IsInRange drive.geometry
    × ((FitsReserve drive.geometry n → ⊥)
    ⊎ (CanScan drive n × HoldLogs drive.geometry (contents drive.zones) × (FitsReserve drive.geometry (drive_size drive n) → ⊥)))
SurveyFails drive n (ZoneUnusable zone) = IsInRange drive.geometry × FitsReserve drive.geometry n × IsLowestUnusable (contents drive.zones) zone
SurveyFails drive n TooManyPartial = IsInRange drive.geometry × FitsReserve drive.geometry n × AreUsable (contents drive.zones)
    × (2 < count_by is_partly_written (contents drive.zones))
SurveyFails drive n BlockOutOfRange =
    CanScan drive n × HoldLogs drive.geometry (contents drive.zones) × FitsReserve drive.geometry (drive_size drive n) × (AreInside drive n → ⊥)
SurveyFails drive n NoSpare = ⊥
SurveyFails drive n (TornZone zone) = ⊥
SurveyFails drive n Halted = ⊥
SurveyFails drive n OutOfMemory = ⊥
SurveyFails drive n Damaged = ⊥
SurveyFails drive n Failed = ⊥
SurveyFails drive n fault = CanScan drive n × FailsFirst drive.geometry (contents drive.zones) fault

-- a zone that was not open is not reported open
abbrev pub TellsShut : DriveState → List ReportedZone → Type 0
TellsShut drive reported =
    (zone : ℕ) (r : ReportedZone) → slice_get reported zone ≡ Some r → IsShut drive.zones zone → is_open r.state ≡ false

-- What is known of a drive that is not refused so far: its logs are sound, the reserve allows its size, and the headers of all batches are kept.
pub record Surveys (old new : DriveState) (n : ℕ) (survey : Survey) : Type 0 where
  pub can : CanScan old n
  pub sound : AreSound (2 ^ 63) n (zone_logs old.geometry (contents old.zones))
  pub size_is : survey.size ≡ drive_size old n
  pub given_is : survey.given ≡ n
  pub reserve : FitsReserve old.geometry (drive_size old n)
  pub zones : AreKnown new survey.zones.items
  pub shut : TellsShut old survey.zones.items
  pub scans : ScansAll old.geometry (contents old.zones) survey.scanned.items

-- What is known of it whatever its Reads returned: the report is true of all its zones.
pub record Reports (old new : DriveState) (n : ℕ) (survey : Survey) : Type 0 where
  pub can : CanScan old n
  pub given_is : survey.given ≡ n
  pub zones : AreKnown new survey.zones.items
  pub shut : TellsShut old survey.zones.items
  pub scanned : length survey.scanned.items ≡ length survey.zones.items

-- ---- as it is found

abbrev pub is_partly_reported : ReportedZone → Bool
is_partly_reported zone = is_active_usage (usage_of zone.state) && not (zone.blocks == 0)

-- the lowest of the reported zones that is Read Only or Offline
pub record IsLowestReported (zones : List ReportedZone) (zone : ℕ) : Type 0 where
  pub in_range : zone < length zones
  pub each : (reported : ReportedZone) → slice_get zones zone ≡ Some reported → is_usable (usage_of reported.state) ≡ false
  pub lowest : (other : ℕ) (reported : ReportedZone) → other < zone → slice_get zones other ≡ Some reported → is_usable (usage_of reported.state) ≡ true

abbrev pub AreReportedUsable : List ReportedZone → Type 0
AreReportedUsable zones = AllByRecursion (λ (zone : ReportedZone). is_usable (usage_of zone.state) ≡ true) zones

-- the greatest size in the headers of all zones
abbrev pub greatest_in : List HeadsView → Option ℕ
greatest_in [] = None
greatest_in (heads ∷ others) = larger heads.size (greatest_in others)

abbrev pub AreBelow : ℕ → List ScannedZone → Type 0
AreBelow size scanned = AllByRecursion (λ (zone : ScannedZone). zone.heads.highest < size) scanned
