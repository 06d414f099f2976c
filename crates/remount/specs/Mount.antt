-- Which drives are mounted, and why others are refused.
use Rattle.std.specs.Prelude.{◌≡◌, ◌≢◌, ◌⊎◌, ℕ, ◌+◌, ◌<◌, ◌≤◌, ◌^◌, max, Bool, true, false, List, [], length}
use Rattle.std.specs.Prelude.{slice_get, slice_index_or, Contains, Option, Some, None, count_by}
use Rattle.std.specs.List.{AllByRecursion}
use Rattle.nvme_wire.specs.declared.zone_state.ZoneState.TheVariants.{Empty}
use Rattle.zone_states.specs.declared.geometry.Geometry.{Geometry}
use Rattle.zone_states.specs.Geometry.{IsInRange}
use Rattle.drive_port.specs.Contents.{Content, content_at, contents, full}
use Rattle.drive_port.specs.Drive.{DriveState}
use Rattle.logical_map.specs.Live.{blocks_in}
use Rattle.batch_log.specs.Log.{Batch}
use Rattle.zone_choice.specs.declared.roles.Filling.{Filling}
use Rattle.zone_choice.specs.declared.roles.Second.{Second}
use Rattle.zone_choice.specs.declared.roles.Second.TheVariants.{Next}
use Rattle.zone_choice.specs.Agreement.{Agrees, IsShut, mounted}
use Rattle.drive_array.specs.ZoneLogs.{drive_logs, log_at, sequences, encoded, zone_tails}
use Rattle.drive_array.specs.Mountable.{HoldDisk, IsMountable, is_partly_written}
use Rattle.drive_array.specs.Repair.{Fits, HasAtMost, IsTornAt, live_records, live_data, moves}
use Rattle.drive_array.specs.Reserve.{FitsReserve, batch_most}
use Rattle.zone_choice.specs.Roles.{RolesView, empty_count, fillings}
use Rattle.drive_array.specs.Sizes.{encoded_size, map_of}
use Rattle.drive_array.specs.Spare.{HasSpare, IsClearing, IsVacant, NoneBelow, cleared}
use Rattle.zone_choice.specs.Tables.{TablesView, size_of}
use Rattle.drive_survey.specs.declared.fault.MountFault.{MountFault}
use Rattle.drive_survey.specs.declared.fault.MountFault.TheVariants.{NoSpare, Spent, TornZone}
use Rattle.drive_survey.specs.declared.reported.ReportedZone.{ReportedZone}
use Rattle.remount.specs.declared.repair.Repair.{Repair}
use Rattle.drive_survey.specs.declared.survey.Survey.{Survey}
use Rattle.remount.specs.declared.plan.Plan.{Plan}
use Rattle.drive_survey.specs.Heads.{greatest_sequence}
use Rattle.remount.specs.Kept.{AreVacantEmpty, IsNotedOpen}
use Rattle.drive_survey.specs.Known.{HasVacant, Knows}
use Rattle.remount.specs.Resets.{CanBeFilled, KeepsWritten, OpensNoZone, finished_if_active, reported_empty}
use Rattle.remount.specs.TornRepair.{RepairsBeside, RepairsTorn}
use Rattle.drive_survey.specs.Survey.{AreInside, CanScan, HoldLogs, SurveyFails, drive_size}

-- ---- torn zones

-- no zone is torn
abbrev pub NoneIsTorn : List (List Batch) → List Bool → Type 0
NoneIsTorn logs tails = (zone : ℕ) → IsTornAt logs tails zone → ⊥

-- the zone is the only torn one
pub record IsOnlyTorn (logs : List (List Batch)) (tails : List Bool) (zone : ℕ) : Type 0 where
  pub torn : IsTornAt logs tails zone
  pub only : (other : ℕ) → IsTornAt logs tails other → other ≡ zone

-- The zone is the lowest torn one, and cannot be repaired: another one is torn, too, or its live records do not fit in a zone.
pub record IsPastRepair (geometry : Geometry) (size : ℕ) (logs : List (List Batch)) (tails : List Bool) (zone : ℕ) : Type 0 where
  pub torn : IsTornAt logs tails zone
  pub lowest : (other : ℕ) → other < zone → IsTornAt logs tails other → ⊥
  pub why : ((other : ℕ) × (zone < other) × IsTornAt logs tails other)
      ⊎ (geometry.capacity < moves (batch_most geometry) (live_records size logs zone) + live_data size logs zone)

-- One zone is torn and its live records fit in a zone, but the sequences do not last for the Moves.
pub record LacksSequences (geometry : Geometry) (size : ℕ) (logs : List (List Batch)) (tails : List Bool) : Type 0 where
  pub zone : ℕ
  pub torn : IsOnlyTorn logs tails zone
  pub room : moves (batch_most geometry) (live_records size logs zone) + live_data size logs zone ≤ geometry.capacity
  pub lacks : AllByRecursion (λ sequence. sequence + moves (batch_most geometry) (live_records size logs zone) < 2 ^ 63) (sequences logs) → ⊥

-- why the zones of a cleared drive cannot be repaired
abbrev pub CannotRepair : Geometry → ℕ → List (List Batch) → List Bool → MountFault → Type 0
CannotRepair geometry size logs tails (TornZone zone) = IsPastRepair geometry size logs tails zone
CannotRepair geometry size logs tails Spent = LacksSequences geometry size logs tails
CannotRepair geometry size logs tails fault = ⊥

-- tables that say where the newest records of all blocks are, and nothing of the zones yet
pub record IsPlaced (geometry : Geometry) (n : ℕ) (logs : List (List Batch)) (tables : TablesView) : Type 0 where
  pub places : tables.map.places ≡ map_of geometry.size n logs
  pub zones : tables.map.zones ≡ geometry.zones
  pub zone_size : tables.map.zone_size ≡ geometry.size
  pub given : tables.given ≡ n
  pub unreadable : tables.unreadable ≡ []

-- The one torn zone of a cleared drive can be repaired; all blocks whose newest record is there are known, and the places of all blocks.
pub record IsRepairPlan (geometry : Geometry) (n : ℕ) (logs : List (List Batch)) (tails : List Bool) (repair : Repair) : Type 0 where
  pub torn : IsOnlyTorn logs tails repair.zone
  pub fits : Fits geometry (2 ^ 63) (encoded_size n logs) logs repair.zone
  pub blocks : repair.blocks.items ≡ blocks_in geometry.size repair.zone 0 (map_of geometry.size n logs)
  pub placed : IsPlaced geometry n logs repair.tables

-- The blocks of a repair are those that its tables place in its zone, which is one of so many.
pub record IsListed (count : ℕ) (repair : Repair) : Type 0 where
  pub zone : repair.zone < count
  pub few : size_of repair.tables ≤ 2 ^ 31
  pub blocks : repair.blocks.items ≡ blocks_in repair.tables.map.zone_size repair.zone 0 repair.tables.map.places

-- which repair a cleared drive needs
abbrev pub PlansRepair : Geometry → ℕ → List (List Batch) → List Bool → Option Repair → Type 0
PlansRepair geometry n logs tails None = NoneIsTorn logs tails
PlansRepair geometry n logs tails (Some repair) = IsRepairPlan geometry n logs tails repair

-- ---- the drive that is left

-- Zones without a batch that were not reported Empty, all of them.
pub record AreToEmpty (logs : List (List Batch)) (survey : Survey) (zones : List ℕ) : Type 0 where
  pub vacant : AllByRecursion (λ zone. (zone < length logs) × IsVacant logs zone) zones
  pub needed : AllByRecursion (λ zone. (slice_index_or survey.zones.items zone reported_empty).state ≢ Empty) zones
  pub others : (zone : ℕ) (r : ReportedZone) → slice_get survey.zones.items zone ≡ Some r → IsVacant logs zone → (r.state ≡ Empty) ⊎ Contains zones zone

-- no zone has a torn tail
abbrev pub AreWhole : List Content → Type 0
AreWhole zones = (zone : ℕ) → slice_index_or (zone_tails zones) zone false ≡ false

-- A drive that a disk can serve: vacant zones are Empty, and there is one; no zone has a torn tail; and zones that
-- are partly written, two at most, have two free blocks and no batch with more entries than ours.
pub record IsRepaired (drive : DriveState) (n : ℕ) (survey : Survey) : Type 0 where
  pub known : Knows drive n (drive_logs drive) survey
  pub empty : AreVacantEmpty survey.zones.items (drive_logs drive)
  pub whole : AreWhole (contents drive.zones)
  pub few_partial : count_by is_partly_written (contents drive.zones) ≤ 2
  pub room : (zone : ℕ) → is_partly_written (content_at (contents drive.zones) zone) ≡ true
      → length (content_at (contents drive.zones) zone).blocks + 2 ≤ drive.geometry.capacity
  pub few : (zone : ℕ) → is_partly_written (content_at (contents drive.zones) zone) ≡ true
      → AllByRecursion (HasAtMost (batch_most drive.geometry)) (log_at (drive_logs drive) zone)
  pub vacant : HasVacant (drive_logs drive)

-- ---- the mount

-- of two zones that are partly written the lower is the host zone, and the other the next one
abbrev pub HostIsBelow : Option Filling → Option Second → Type 0
HostIsBelow host None = Unit {0}
HostIsBelow (Some host) (Some (Next second)) = host.zone < second.zone
HostIsBelow host second = ⊥

-- The roles after a mount: the zones that are being filled are the partly written ones.
pub record AreMountedRoles (capacity : ℕ) (zones : List Content) (roles : RolesView) : Type 0 where
  pub written : AllByRecursion (λ (filling : Filling). (is_partly_written (content_at zones filling.zone) ≡ true)
      × (filling.written + 2 ≤ capacity)) (fillings roles)
  pub order : HostIsBelow roles.host roles.second
  pub empty : 1 ≤ empty_count roles

-- A drive that is not refused: its geometry and n are in range, and it can be mounted.
pub record IsToMount (drive : DriveState) (n : ℕ) : Type 0 where
  pub geometry : IsInRange drive.geometry
  pub reserve : FitsReserve drive.geometry n
  pub mountable : IsMountable drive n

-- What is left if no zone is torn: the same batches. Where one is, it was repaired.
abbrev pub LeavesRepaired : Geometry → ℕ → List (List Batch) → List Bool → List (List Batch) → Type 0
LeavesRepaired geometry n logs tails new =
    (NoneIsTorn logs tails × (new ≡ logs)) ⊎ ((torn : ℕ) × IsOnlyTorn logs tails torn × RepairsTorn geometry n logs torn new)

-- What carrying out the repair that is planned leaves.
abbrev pub LeavesPlanned : Geometry → ℕ → List (List Batch) → Option Repair → List (List Batch) → Type 0
LeavesPlanned geometry n logs None new = new ≡ logs
LeavesPlanned geometry n logs (Some repair) new = RepairsTorn geometry n logs repair.zone new

-- These zones were emptied, and of the others a torn one was repaired.
abbrev pub LeavesCleared : ℕ → DriveState → List ℕ → DriveState → Type 0
LeavesCleared n old resets new = LeavesRepaired old.geometry n (cleared (drive_logs old) resets) (zone_tails (contents old.zones)) (drive_logs new)

-- What carrying it out leaves of zones other than the torn one.
abbrev pub LeavesBeside : DriveState → Option Repair → DriveState → Type 0
LeavesBeside old None new = new ≡ old
LeavesBeside old (Some repair) new = RepairsBeside old new repair.zone

-- If no zone of the cleared drive is torn, no zone was finished without need: each zone that has a batch there
-- holds what it held, except for partly written ones that a disk does not continue with.
abbrev pub KeepsOthers : DriveState → List ℕ → DriveState → Type 0
KeepsOthers old resets new =
    NoneIsTorn (cleared (drive_logs old) resets) (zone_tails (contents old.zones))
    → (zone : ℕ) → log_at (cleared (drive_logs old) resets) zone ≢ [] → CanBeFilled old zone
    → content_at (contents new.zones) zone ≡ content_at (contents old.zones) zone

-- Where a zone of the cleared drive is torn, each other one that has a batch there was finished, if it was opened or Closed, and else holds what it held.
abbrev pub FinishesBeside : DriveState → List ℕ → DriveState → Type 0
FinishesBeside old resets new =
    (torn : ℕ) → IsTornAt (cleared (drive_logs old) resets) (zone_tails (contents old.zones)) torn
    → (zone : ℕ) → log_at (cleared (drive_logs old) resets) zone ≢ [] → zone ≢ torn
    → content_at (contents new.zones) zone ≡ finished_if_active (content_at (contents old.zones) zone)

-- A zone had no batch on the cleared drive, and has one now: it took the Moves of a repair.
abbrev pub TookMoves : DriveState → List ℕ → DriveState → ℕ → Type 0
TookMoves old resets new zone = IsVacant (cleared (drive_logs old) resets) zone × (log_at (drive_logs new) zone ≢ [])

-- Zones are finished and opened only by need: of those with a batch as above; the one that took the Moves of a
-- repair is full only if fewer than two of its blocks are free, and no other one was opened.
pub record FinishesByNeed (old : DriveState) (resets : List ℕ) (new : DriveState) : Type 0 where
  pub others : KeepsOthers old resets new
  pub beside : FinishesBeside old resets new
  pub moves : (zone : ℕ) → TookMoves old resets new zone → (content_at (contents new.zones) zone).usage ≡ full
      → new.geometry.capacity < length (content_at (contents new.zones) zone).blocks + 2
  pub opens : (zone : ℕ) → IsShut old.zones zone → IsShut new.zones zone ⊎ TookMoves old resets new zone

-- each zone that is noted as open was noted so before, or took the Moves of a repair
abbrev pub NotesOpenByNeed : DriveState → List ℕ → DriveState → List ReportedZone → List ReportedZone → Type 0
NotesOpenByNeed old resets new before after =
    (zone : ℕ) → IsNotedOpen after zone → IsNotedOpen before zone ⊎ TookMoves old resets new zone

-- a zone that may be open was open before the mount, or took the Moves of a repair
abbrev pub WasOpenOrTook : DriveState → List ℕ → DriveState → Filling → Type 0
WasOpenOrTook old resets new filling =
    filling.may_open ≡ true → (IsShut old.zones filling.zone → ⊥) ⊎ TookMoves old resets new filling.zone

-- What a mount leaves of a drive: its half clean zones were emptied, the lowest first, and then a torn zone was
-- repaired; no zone was finished or opened without need.
pub record LeavesMounted (old new : DriveState) (n : ℕ) : Type 0 where
  pub resets : List ℕ
  pub clearing : IsClearing old.geometry.block n (drive_logs old) resets
  pub left : LeavesCleared n old resets new
  pub zones : FinishesByNeed old resets new

-- A drive that can be mounted is mounted, with n logical blocks if no header says how many. It was cleared and
-- repaired. The tables agree with the drive that is left, which has the same array; and the next sequence is one more
-- than the greatest that any batch had.
pub record Mounts (old new : DriveState) (n : ℕ) (tables : TablesView) : Type 0 where
  pub can : IsToMount old n
  pub leaves : LeavesMounted old new n
  pub agrees : Agrees (mounted new tables)
  pub may_open : AllByRecursion (WasOpenOrTook old leaves.resets new) (fillings tables.roles)
  pub roles : AreMountedRoles new.geometry.capacity (contents new.zones) tables.roles
  pub given : tables.given ≡ n
  pub array : encoded new n ≡ encoded old n
  pub next : tables.next ≡ 1 + max (greatest_sequence (sequences (drive_logs old))) (greatest_sequence (sequences (drive_logs new)))

-- the cleared drive cannot be repaired
abbrev pub CannotClear : DriveState → ℕ → MountFault → Type 0
CannotClear drive n fault =
    (resets : List ℕ) × IsClearing drive.geometry.block n (drive_logs drive) resets
    × CannotRepair drive.geometry (drive_size drive n) (cleared (drive_logs drive) resets) (zone_tails (contents drive.zones)) fault

-- Why a drive is refused: the first fault, in the order in which a mount looks for them.
abbrev pub MountFails : DriveState → ℕ → MountFault → Type 0
MountFails drive n NoSpare =
    CanScan drive n × HoldLogs drive.geometry (contents drive.zones) × FitsReserve drive.geometry (drive_size drive n) × AreInside drive n
    × (HasSpare drive.geometry.block n (drive_logs drive) → ⊥)
MountFails drive n (TornZone zone) = CanScan drive n × HoldDisk drive.geometry (contents drive.zones) n × CannotClear drive n (TornZone zone)
MountFails drive n Spent = SurveyFails drive n Spent ⊎ (CanScan drive n × HoldDisk drive.geometry (contents drive.zones) n × CannotClear drive n Spent)
MountFails drive n fault = SurveyFails drive n fault

-- ---- on the way

-- What is to be done to a drive that can be mounted: which zones are emptied, after which it is cleared; and which
-- one is repaired. The headers of the zones of the clearing are forgotten.
pub record IsPlanned (drive : DriveState) (n : ℕ) (survey : Survey) (plan : Plan) : Type 0 where
  pub mountable : IsMountable drive n
  pub vacant : AreToEmpty (drive_logs drive) survey plan.vacant.items
  pub clearing : IsClearing drive.geometry.block n (drive_logs drive) plan.half_clean.items
  pub known : Knows drive n (cleared (drive_logs drive) plan.half_clean.items) survey
  pub repair : PlansRepair drive.geometry n (cleared (drive_logs drive) plan.half_clean.items) (zone_tails (contents drive.zones)) plan.repair

-- Why a drive is refused whose headers have no fault.
abbrev pub PlanFails : DriveState → ℕ → MountFault → Type 0
PlanFails drive n NoSpare = HasSpare drive.geometry.block n (drive_logs drive) → ⊥
PlanFails drive n fault = HasSpare drive.geometry.block n (drive_logs drive) × CannotClear drive n fault

-- The half clean zones hold no batch any more, and each zone that has one holds what it held, with its torn tail or without; none was opened.
pub record LeavesEmptied (old new : DriveState) (half_clean : List ℕ) : Type 0 where
  pub logs : drive_logs new ≡ cleared (drive_logs old) half_clean
  pub others : KeepsWritten old new
  pub opens : OpensNoZone old new
  pub tails : (zone : ℕ) → log_at (drive_logs new) zone ≢ []
      → slice_index_or (zone_tails (contents new.zones)) zone false ≡ slice_index_or (zone_tails (contents old.zones)) zone false

-- The zones that are to be emptied were: the drive can be mounted, none of its zones is half clean, and each zone without a batch is Empty.
pub record IsCleared (drive : DriveState) (n : ℕ) (survey : Survey) : Type 0 where
  pub known : Knows drive n (drive_logs drive) survey
  pub mountable : IsMountable drive n
  pub none : NoneBelow drive.geometry.block n (drive_logs drive) (length drive.zones)
  pub empty : AreVacantEmpty survey.zones.items (drive_logs drive)

-- The torn zone was repaired, if there was one.
pub record IsUntorn (drive : DriveState) (n : ℕ) (survey : Survey) : Type 0 where
  pub known : Knows drive n (drive_logs drive) survey
  pub mountable : IsMountable drive n
  pub empty : AreVacantEmpty survey.zones.items (drive_logs drive)
  pub whole : AreWhole (contents drive.zones)
  pub spare : HasVacant (drive_logs drive)
