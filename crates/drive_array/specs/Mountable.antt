-- Which drives can be mounted, with n logical blocks if no header says how many.
use Rattle.std.specs.Prelude.{◌≡◌, ℕ, ◌<◌, ◌≤◌, ◌^◌, ◌==◌, ◌&&◌, not, nat_eq, Bool, true, List, length, count_by}
use Rattle.std.specs.List.{AllByRecursion, IsDistinct}
use Rattle.zone_states.specs.declared.geometry.Geometry.{Geometry}
use Rattle.drive_port.specs.Drive.{DriveState, IsLawful}
use Rattle.drive_port.specs.Contents.{Content, contents, is_active_usage, is_usable}
use Rattle.batch_log.specs.declared.header.Entry.{Entry}
use Rattle.batch_log.specs.Log.{Batch}
use Rattle.drive_array.specs.Repair.{CanRepair}
use Rattle.drive_array.specs.Reserve.{FitsReserve}
use Rattle.drive_array.specs.Sizes.{encoded_size}
use Rattle.drive_array.specs.Spare.{HasSpare, IsClearing, cleared}
use Rattle.drive_array.specs.ZoneLogs.{HasLog, sequences, zone_logs, zone_tails}

-- opened or Closed, with at least one block
abbrev pub is_partly_written : Content → Bool
is_partly_written content = is_active_usage content.usage && not (length content.blocks == 0)

-- a batch names blocks below a size
abbrev pub IsInside : ℕ → Batch → Type 0
IsInside size batch = AllByRecursion (λ (e : Entry). e.block < size) batch.heading.entries

-- What the logs of a disk satisfy: each batch has a sequence below the limit and names blocks below the size, and no two batches have one sequence.
pub record AreSound (limit n : ℕ) (logs : List (List Batch)) : Type 0 where
  pub numbers : AllByRecursion (λ sequence. sequence < limit) (sequences logs)
  pub inside : AllByRecursion (AllByRecursion (IsInside (encoded_size n logs))) logs
  pub distinct : IsDistinct nat_eq (sequences logs)

-- What the zones of a disk hold: none is Read Only or Offline, at most two are partly written, every zone holds a log,
-- the batches are sound, the reserve allows the size, and a zone is vacant or half clean.
pub record HoldDisk (geometry : Geometry) (zones : List Content) (n : ℕ) : Type 0 where
  pub usable : AllByRecursion (λ (zone : Content). is_usable zone.usage ≡ true) zones
  pub few_partial : count_by is_partly_written zones ≤ 2
  pub logs : AllByRecursion (HasLog geometry) zones
  pub sound : AreSound (2 ^ 63) n (zone_logs geometry zones)
  pub reserve : FitsReserve geometry (encoded_size n (zone_logs geometry zones))
  pub spare : HasSpare geometry.block n (zone_logs geometry zones)

-- They can be mounted: on the cleared drive, which is what the mount's clearing leaves, at most one zone is torn, and
-- that can be repaired. There is exactly one clearing.
pub record AreMountable (geometry : Geometry) (zones : List Content) (n : ℕ) : Type 0 where
  pub disk : HoldDisk geometry zones n
  pub repair : (resets : List ℕ) → IsClearing geometry.block n (zone_logs geometry zones) resets
      → CanRepair geometry (2 ^ 63) (encoded_size n (zone_logs geometry zones)) (cleared (zone_logs geometry zones) resets) (zone_tails zones)

-- a lawful drive whose zones can be mounted
pub record IsMountable (drive : DriveState) (n : ℕ) : Type 0 where
  pub lawful : IsLawful drive
  pub holds : AreMountable drive.geometry (contents drive.zones) n
