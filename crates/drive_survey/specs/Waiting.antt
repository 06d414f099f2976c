-- What a mount keeps while it looks for half clean zones, so that no zone is looked at without need.
use Rattle.std.specs.Prelude.{◌≡◌, ◌≢◌, ◌⊎◌, ℕ, ◌<◌, Bool, List, [], Option, Some, length, slice_get, IsTrue}
use Rattle.std.specs.List.{AllByRecursion}
use Rattle.std.specs.BTreeSet.{BTreeSet, contains}
use Rattle.std.specs.Ordering.{nat_cmp}
use Rattle.drive_port.specs.Drive.{DriveState}
use Rattle.batch_log.specs.Log.{Batch}
use Rattle.drive_array.specs.Records.{Record, newest, records, without}
use Rattle.drive_array.specs.Repairing.{IsMoved, NeedsItsBlock}
use Rattle.drive_array.specs.Sizes.{encoded_size}
use Rattle.drive_survey.specs.declared.clearing.Candidates.{Candidates}
use Rattle.drive_survey.specs.declared.clearing.Finding.{Finding}
use Rattle.drive_survey.specs.declared.clearing.block_records.BlockRecords.{BlockRecords}
use Rattle.drive_survey.specs.declared.clearing.sizes.SizeCounts.{SizeCounts}
use Rattle.drive_survey.specs.declared.survey.Survey.{Survey}
use Rattle.drive_survey.specs.declared.scan.ScannedZone.{ScannedZone}
use Rattle.drive_survey.specs.BlockRecords.{HoldsMore, HoldsRecords, own_of}
use Rattle.drive_survey.specs.Clearing.{CoversHeads, CoversMoved, CoversZone, FindsLowest, Tells}
use Rattle.drive_survey.specs.Heads.{HeadsView}
use Rattle.drive_survey.specs.declared.records.KeptRecord.{KeptRecord}
use Rattle.drive_survey.specs.Known.{Finds, Knows}
use Rattle.drive_survey.specs.Scan.{heads_in}
use Rattle.drive_survey.specs.SizeCounts.{IsSized, size_counts}

-- Why a zone is not half clean: its batches are not Moves from an older zone; or a block shows something else without it; or only it says the size.
abbrev pub IsNeeded : ℕ → ℕ → List (List Batch) → ℕ → Type 0
IsNeeded block_bytes n logs zone =
    (IsMoved logs zone → ⊥)
    ⊎ ((block : ℕ) × NeedsItsBlock block_bytes n logs zone block)
    ⊎ (encoded_size n (without logs zone) ≢ encoded_size n logs)

-- a zone is not half clean, or waits to be looked at
abbrev pub MayWait : ℕ → ℕ → List (List Batch) → BTreeSet ℕ → ℕ → Type 0
MayWait block_bytes n logs waiting zone = IsTrue (contains nat_cmp waiting zone) ⊎ IsNeeded block_bytes n logs zone

-- The candidates of these logs, as a mount knows them: the records of the blocks that zones of Moves name, and how many zones say a size.
pub record AreCandidates (drive : DriveState) (n : ℕ) (logs : List (List Batch)) (survey : Survey) (candidates : Candidates) : Type 0 where
  pub known : Knows drive n logs survey
  pub records : HoldsRecords logs candidates.records
  pub covers : CoversMoved logs survey.scanned.items candidates.records
  pub sizes : candidates.sizes ≡ size_counts survey.size (heads_in survey.scanned.items)

-- each half clean zone waits
abbrev pub AllWait : DriveState → ℕ → List (List Batch) → Candidates → Type 0
AllWait drive n logs candidates = (zone : ℕ) → zone < length logs → MayWait drive.geometry.block n logs candidates.waiting zone

-- and so does each but one
abbrev pub OthersWait : DriveState → ℕ → List (List Batch) → Candidates → ℕ → Type 0
OthersWait drive n logs candidates taken = (zone : ℕ) → zone < length logs → zone ≢ taken → MayWait drive.geometry.block n logs candidates.waiting zone

-- ---- what is found

-- what a look at a zone finds, by a table of the records of the blocks that it names
abbrev pub TellsFinding : DriveState → ℕ → Survey → BlockRecords → ℕ → Finding → Type 0
TellsFinding drive n survey table zone finding =
    (logs : List (List Batch)) → Knows drive n logs survey → HoldsRecords logs table
    → (IsMoved logs zone → CoversZone survey.scanned.items table zone) → Finds drive.geometry.block n logs zone finding

-- and what it finds by the survey
abbrev pub FindsOf : DriveState → ℕ → Survey → ℕ → Finding → Type 0
FindsOf drive n survey zone finding = (logs : List (List Batch)) → Knows drive n logs survey → Finds drive.geometry.block n logs zone finding

-- what the counts tell of the size without a zone
abbrev pub TellsSize : ℕ → Survey → SizeCounts → ℕ → Bool → Type 0
TellsSize n survey sizes zone told =
    (drive : DriveState) (logs : List (List Batch)) → Knows drive n logs survey → sizes ≡ size_counts survey.size (heads_in survey.scanned.items)
    → Tells told (encoded_size n (without logs zone) ≡ encoded_size n logs)

-- the lowest half clean zone is found, where each waits
abbrev pub FindsLowestWaiting : DriveState → ℕ → Survey → Candidates → Option ℕ → Type 0
FindsLowestWaiting drive n survey candidates found =
    (logs : List (List Batch)) → AreCandidates drive n logs survey candidates → AllWait drive n logs candidates → FindsLowest drive.geometry.block n logs found

-- and the others wait on
abbrev pub LeavesWaiting : DriveState → ℕ → Survey → Candidates → Candidates → ℕ → Type 0
LeavesWaiting drive n survey old new zone =
    (logs : List (List Batch)) → AreCandidates drive n logs survey old → AllWait drive n logs old → OthersWait drive n logs new zone

-- ---- a zone is forgotten

-- A table without the records of a zone. It holds the blocks still, and keeps what it kept of the other zones. Where it held the newest records of
-- some logs, and kept those of the zone, it holds those of the logs without the zone.
pub record LosesZone (old new : BlockRecords) (zone : ℕ) : Type 0 where
  pub gone : own_of new zone ≡ []
  pub others : (q : ℕ) → q ≢ zone → own_of new q ≡ own_of old q
  pub more : HoldsMore old new
  pub holds : (drive : DriveState) (n : ℕ) (logs : List (List Batch)) (survey : Survey) (found : ScannedZone) → Knows drive n logs survey
      → slice_get survey.scanned.items zone ≡ Some found → CoversHeads old zone found.heads → HoldsRecords logs old → HoldsRecords (without logs zone) new

-- ---- zones that wait again

-- the zone in which the newest record of a block is waits
abbrev pub HolderWaits : List (List Batch) → BTreeSet ℕ → ℕ → Type 0
HolderWaits logs waiting block = (r : Record) → newest block (records 0 logs) ≡ Some r → IsTrue (contains nat_cmp waiting r.zone)

-- and so do those of the blocks of these records
abbrev pub HoldersWait : List (List Batch) → BTreeSet ℕ → List KeptRecord → Type 0
HoldersWait logs waiting own = AllByRecursion (λ (r : KeptRecord). HolderWaits logs waiting r.block) own

-- a zone that says a size waits, if any
abbrev pub LastWaits : List HeadsView → BTreeSet ℕ → Type 0
LastWaits views waiting = ((zone : ℕ) → IsSized views zone → ⊥) ⊎ ((zone : ℕ) × IsSized views zone × IsTrue (contains nat_cmp waiting zone))
