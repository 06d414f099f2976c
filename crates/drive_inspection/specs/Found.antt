-- What is counted of a drive, by the tables and the headers that are kept.
use Rattle.std.specs.Prelude.{◌≡◌, ◌≢◌, ◌⊎◌, ℕ, ◌+◌, Bool, true, false, List, length, slice_get, Option, None, Some}
use Rattle.zone_states.specs.declared.geometry.Geometry.{Geometry}
use Rattle.logical_map.specs.Live.{blocks_in}
use Rattle.logical_map.specs.Places.{MapView}
use Rattle.logical_map.specs.declared.place.Place.{Place}
use Rattle.logical_map.specs.declared.place.Place.TheVariants as places
use Rattle.drive_array.specs.Repair.{moves}
use Rattle.drive_array.specs.Reserve.{batch_most}
use Rattle.drive_survey.specs.declared.fault.MountFault.{MountFault}
use Rattle.drive_survey.specs.declared.fault.MountFault.TheVariants.{Damaged, Failed, Halted, OutOfMemory}
use Rattle.drive_survey.specs.declared.scan.ScannedZone.{ScannedZone}
use Rattle.remount.specs.Torn.{data_in, is_torn_zone}
use Rattle.remount.specs.declared.plan.Plan.{Plan}
use Rattle.remount.specs.declared.repair.Repair.{Repair}
use Rattle.drive_inspection.specs.declared.info.LiveCount.{LiveCount}
use Rattle.drive_inspection.specs.declared.info.MountWork.{MountWork}
use Rattle.drive_inspection.specs.declared.info.TornRepair.{TornRepair}
use Rattle.drive_inspection.specs.declared.info.ZoneInfo.{ZoneInfo}

-- whether a record there is a trim
abbrev pub is_trim_place : Place → Bool
is_trim_place places.None = false
is_trim_place (places.Trimmed address) = true
is_trim_place (places.At address) = false

-- one record more, whose place is this
abbrev pub counting_record : LiveCount → Place → LiveCount
counting_record live (places.At address) = record { written = live.written + 1; trimmed = live.trimmed }
counting_record live place = record { written = live.written; trimmed = live.trimmed + 1 }

-- one record more, if there is one at a place
abbrev pub counting_place : LiveCount → Place → LiveCount
counting_place live places.None = live
counting_place live place = counting_record live place

-- what is told of a zone whose headers are kept, and of the records that have their places there
pub record TellsZone (scanned : List ScannedZone) (map : MapView) (zone : ℕ) (info : ZoneInfo) : Type 0 where
  pub kept : ScannedZone
  pub there : slice_get scanned zone ≡ Some kept
  pub batches : info.batches ≡ length kept.heads.heads
  pub torn : info.is_torn ≡ is_torn_zone kept
  pub written : info.live.written ≡ data_in map.zone_size zone map.places
  pub all : info.live.written + info.live.trimmed ≡ length (blocks_in map.zone_size zone 0 map.places)

-- and so of each zone
pub record TellZones (scanned : List ScannedZone) (map : MapView) (infos : List ZoneInfo) : Type 0 where
  pub count : length infos ≡ length scanned
  pub each : (zone : ℕ) (info : ZoneInfo) → slice_get infos zone ≡ Some info → TellsZone scanned map zone info

-- ---- what a plan does

-- the repair that is planned, and how many records and Moves that takes
abbrev pub TellsRepair : Geometry → Option Repair → Option TornRepair → Type 0
TellsRepair geometry None told = told ≡ None
TellsRepair geometry (Some repair) told =
    told ≡ Some (record { zone = repair.zone; records = length repair.blocks.items; moves = moves (batch_most geometry) (length repair.blocks.items) })

pub record IsWorkOf (geometry : Geometry) (plan : Plan) (work : MountWork) : Type 0 where
  pub vacant : work.vacant ≡ plan.vacant
  pub half_clean : work.half_clean ≡ plan.half_clean
  pub torn : TellsRepair geometry plan.repair work.torn

-- ---- faults

-- A fault that tells nothing of what the drive holds: memory ran out, the drive has stopped, it failed at a command, or
-- what it returned does not fit together. Of these only the third one is told as the refusal of a mount.
abbrev pub IsNoFinding : MountFault → Type 0
IsNoFinding fault = (fault ≡ OutOfMemory) ⊎ (fault ≡ Halted) ⊎ (fault ≡ Failed) ⊎ (fault ≡ Damaged)

-- a fault that tells something of it
abbrev pub IsRefusal : MountFault → Type 0
IsRefusal fault = (fault ≢ OutOfMemory) × (fault ≢ Halted) × (fault ≢ Failed) × (fault ≢ Damaged)

-- a fault that ends a check
abbrev pub IsEnd : MountFault → Type 0
IsEnd fault = (fault ≡ OutOfMemory) ⊎ (fault ≡ Halted) ⊎ (fault ≡ Damaged)

-- a fault that is told as the refusal of a mount
abbrev pub IsTellable : MountFault → Type 0
IsTellable fault = (fault ≢ OutOfMemory) × (fault ≢ Halted) × (fault ≢ Damaged)
