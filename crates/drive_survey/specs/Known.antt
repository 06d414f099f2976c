-- What is known of a drive whose headers are read, and of its zones.
use Rattle.std.specs.Prelude.{◌≡◌, ◌≢◌, ℕ, ◌<◌, ◌^◌, List, Some, length, map, slice_get}
use Rattle.std.specs.List.{AllByRecursion}
use Rattle.drive_port.specs.Contents.{contents}
use Rattle.drive_port.specs.Drive.{DriveState}
use Rattle.batch_log.specs.Log.{Batch}
use Rattle.drive_array.specs.ZoneLogs.{HasLog, drive_logs, log_at, zone_tails}
use Rattle.drive_array.specs.Mountable.{AreSound}
use Rattle.drive_array.specs.Records.{Record, log_records, without}
use Rattle.drive_array.specs.Repairing.{IsMoved, NeedsItsBlock}
use Rattle.drive_array.specs.Reserve.{FitsReserve}
use Rattle.drive_array.specs.Sizes.{encoded_size}
use Rattle.drive_array.specs.Spare.{IsHalfClean, IsPart, IsVacant}
use Rattle.drive_survey.specs.declared.survey.Survey.{Survey}
use Rattle.drive_survey.specs.declared.clearing.Finding.{Finding}
use Rattle.drive_survey.specs.declared.clearing.Finding.TheVariants.{HalfClean, NotMoves, NeedsBlock, NeedsSize}
use Rattle.drive_survey.specs.Clearing.{ShowsSame}
use Rattle.drive_survey.specs.Heads.{heads_of}
use Rattle.drive_survey.specs.Scan.{AreKnown, heads_in, tails_in}

-- The drive is lawful, and its zones hold logs. Those of its logs that are looked at, of which each is a zone's whole
-- log or is left out, are sound, and the reserve allows the size that they say. The headers of these are kept, and how
-- far each zone is used, and whether it has a torn tail.
pub record Knows (drive : DriveState) (n : ℕ) (logs : List (List Batch)) (survey : Survey) : Type 0 where
  pub all_logs : AllByRecursion (HasLog drive.geometry) (contents drive.zones)
  pub count : length logs ≡ length drive.zones
  pub part : IsPart (drive_logs drive) logs
  pub sound : AreSound (2 ^ 63) n logs
  pub reserve : FitsReserve drive.geometry (encoded_size n logs)
  pub size_is : survey.size ≡ encoded_size n logs
  pub given_is : survey.given ≡ n
  pub zones : AreKnown drive survey.zones.items
  pub heads : heads_in survey.scanned.items ≡ map heads_of logs
  pub tails : tails_in survey.scanned.items ≡ zone_tails (contents drive.zones)

-- some zone has no batch
pub record HasVacant (logs : List (List Batch)) : Type 0 where
  pub zone : ℕ
  pub in_range : zone < length logs
  pub vacant : IsVacant logs zone

-- ---- what is found of a zone

-- A zone's log names this block. The blocks that it names before show the same without the zone.
pub record IsFirstNeeded (block_bytes : ℕ) (logs : List (List Batch)) (zone block : ℕ) : Type 0 where
  pub place : ℕ
  pub found : Record
  pub there : slice_get (log_records zone 0 (log_at logs zone)) place ≡ Some found
  pub block_is : found.block ≡ block
  pub before : (i : ℕ) (r : Record) → i < place → slice_get (log_records zone 0 (log_at logs zone)) i ≡ Some r
      → ShowsSame block_bytes logs zone r.block

-- Whether a zone is half clean, and if not, why: its batches are not Moves from an older zone; or a block shows
-- something else without it, and is the first of its entries that does; or only it says the size.
abbrev pub Finds : ℕ → ℕ → List (List Batch) → ℕ → Finding → Type 0
Finds block_bytes n logs zone HalfClean = IsHalfClean block_bytes n logs zone
Finds block_bytes n logs zone NotMoves = IsMoved logs zone → ⊥
Finds block_bytes n logs zone (NeedsBlock block) =
    IsMoved logs zone × NeedsItsBlock block_bytes n logs zone block × IsFirstNeeded block_bytes logs zone block
Finds block_bytes n logs zone NeedsSize = IsMoved logs zone × (encoded_size n (without logs zone) ≢ encoded_size n logs)
