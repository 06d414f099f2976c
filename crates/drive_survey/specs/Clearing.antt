-- What is found of the zones that a mount empties.
use Rattle.std.specs.Prelude.{◌≡◌, ℕ, ◌<◌, ◌≤◌, Bool, true, false, List, [], ◌∷◌, length, map, slice_get, slice_set, Option, Some, None, IsSome}
use Rattle.std.specs.BTreeMap.{get}
use Rattle.std.specs.Ordering.{nat_cmp}
use Rattle.std.specs.List.{AllByRecursion}
use Rattle.std.specs.Option.{option_map}
use Rattle.drive_port.specs.Drive.{DriveState}
use Rattle.batch_log.specs.Log.{Batch}
use Rattle.drive_array.specs.Records.{Record, newest, records, shown, without}
use Rattle.drive_array.specs.Spare.{IsLowest, NoneBelow}
use Rattle.drive_survey.specs.declared.heads.Head.{Head}
use Rattle.drive_survey.specs.declared.clearing.block_records.BlockRecords.{BlockRecords}
use Rattle.drive_survey.specs.declared.clearing.shown.Rivals.{Rivals}
use Rattle.drive_survey.specs.declared.scan.ScannedZone.{ScannedZone}
use Rattle.drive_survey.specs.Heads.{HeadsView, heads_of, no_heads}
use Rattle.drive_survey.specs.KeptRecords.{kept_of_zone, kept_record}
use Rattle.drive_survey.specs.NewestRecords.{AreNewest}
use Rattle.drive_survey.specs.declared.records.KeptRecord.{KeptRecord}
use Rattle.drive_array.specs.Repairing.{IsMoved}
use Rattle.drive_survey.specs.BlockRecords.{HoldsEach, HoldsRecords, own_of}
use Rattle.drive_survey.specs.Scan.{block_of, readable_at, heads_in}

-- a test tells whether something holds
abbrev pub Tells : Bool → Type 0 → Type 0
Tells true P = P
Tells false P = P → ⊥

-- the headers that are kept of all zones are those of these logs
abbrev pub AreOf : List ScannedZone → List (List Batch) → Type 0
AreOf scanned logs = heads_in scanned ≡ map heads_of logs

-- ---- what a block shows

-- a record's data, if it has some, is at its place
abbrev pub StandsAt : DriveState → Record → Type 0
StandsAt drive r = (bytes : List ℕ) → r.content ≡ Some bytes
    → (r.zone < length drive.zones) × (r.offset < length (readable_at drive r.zone)) × (block_of drive r.zone r.offset ≡ bytes)

-- and so does that of the record, if any
abbrev pub IfStands : DriveState → Option Record → Type 0
IfStands drive None = Unit {0}
IfStands drive (Some r) = StandsAt drive r

-- the data of all records is at its place
abbrev pub AllStand : DriveState → List (List Batch) → Type 0
AllStand drive logs = AllByRecursion (StandsAt drive) (records 0 logs)

-- a block shows the same without a zone
abbrev pub ShowsSame : ℕ → List (List Batch) → ℕ → ℕ → Type 0
ShowsSame block_bytes logs zone block = shown block_bytes (newest block (records 0 (without logs zone))) ≡ shown block_bytes (newest block (records 0 logs))

-- The newest record of a block, which is in a zone, and the newest one outside the zone, as they are kept.
pub record AreRivals (logs : List (List Batch)) (zone block : ℕ) (rivals : Rivals) : Type 0 where
  pub newest_is : Some rivals.newest ≡ option_map kept_record (newest block (records 0 logs))
  pub other_is : rivals.other ≡ option_map kept_record (newest block (records 0 (without logs zone)))

-- the blocks of the records before a place show the same without the zone
abbrev pub ShowSameBefore : ℕ → List (List Batch) → ℕ → List KeptRecord → ℕ → Type 0
ShowSameBefore block_bytes logs zone own k = (i : ℕ) (r : KeptRecord) → i < k → slice_get own i ≡ Some r → ShowsSame block_bytes logs zone r.block

-- The record at this place has this block, which shows something else without the zone. Those before it show the same.
pub record IsNeededAt (block_bytes : ℕ) (logs : List (List Batch)) (zone : ℕ) (own : List KeptRecord) (block : ℕ) : Type 0 where
  pub place : ℕ
  pub found : KeptRecord
  pub there : slice_get own place ≡ Some found
  pub block_is : found.block ≡ block
  pub before : ShowSameBefore block_bytes logs zone own place
  pub differs : ShowsSame block_bytes logs zone block → ⊥

-- which block of these records is the first that shows something else without the zone, if any
abbrev pub FindsNeeded : ℕ → List (List Batch) → ℕ → List KeptRecord → Option ℕ → Type 0
FindsNeeded block_bytes logs zone own (Some block) = IsNeededAt block_bytes logs zone own block
FindsNeeded block_bytes logs zone own None = AllByRecursion (λ (r : KeptRecord). ShowsSame block_bytes logs zone r.block) own

-- whether the two show the same
abbrev pub TellsRivals : DriveState → Rivals → Bool → Type 0
TellsRivals drive rivals same =
    (new old : Option Record) → Some rivals.newest ≡ option_map kept_record new → rivals.other ≡ option_map kept_record old
    → IfStands drive new → IfStands drive old
    → Tells same (shown drive.geometry.block old ≡ shown drive.geometry.block new)

-- a block of the records that a table keeps of a zone, which shows something else without the zone
abbrev pub LooksFor : DriveState → BlockRecords → ℕ → Option ℕ → Type 0
LooksFor drive table zone found =
    (logs : List (List Batch)) → HoldsRecords logs table → AllStand drive logs → HoldsEach table (own_of table zone)
    → FindsNeeded drive.geometry.block logs zone (own_of table zone) found

-- ---- zones

-- the entries of a zone; of one that is missing none
abbrev pub kept_entries_of : Option ScannedZone → List ℕ
kept_entries_of None = []
kept_entries_of (Some found) = found.heads.entries

abbrev pub entries_at : List ScannedZone → ℕ → List ℕ
entries_at scanned zone = kept_entries_of (slice_get scanned zone)

-- a zone has a header, as it was read
abbrev pub HasHeads : List ScannedZone → ℕ → Type 0
HasHeads scanned zone = (found : ScannedZone) × (slice_get scanned zone ≡ Some found) × (0 < length found.heads.heads)

-- at most one record is kept for each entry of a zone
abbrev pub AreFew : List ScannedZone → BlockRecords → Type 0
AreFew scanned table = (zone : ℕ) → length (own_of table zone) ≤ length (entries_at scanned zone)

-- the records that a table keeps of a zone with these headers are its newest ones
abbrev pub IsOwn : BlockRecords → ℕ → HeadsView → Type 0
IsOwn table zone heads = IsSome (get nat_cmp table.own zone) → AreNewest (kept_of_zone zone heads) (own_of table zone)

abbrev pub AreOwn : List ScannedZone → BlockRecords → Type 0
AreOwn scanned table = (zone : ℕ) (found : ScannedZone) → slice_get scanned zone ≡ Some found → IsOwn table zone found.heads

-- a table keeps the newest records of a zone with these headers, and holds their blocks
abbrev pub CoversHeads : BlockRecords → ℕ → HeadsView → Type 0
CoversHeads table zone heads = AreNewest (kept_of_zone zone heads) (own_of table zone) × HoldsEach table (own_of table zone)

abbrev pub CoversZone : List ScannedZone → BlockRecords → ℕ → Type 0
CoversZone scanned table zone = (found : ScannedZone) → slice_get scanned zone ≡ Some found → CoversHeads table zone found.heads

-- and so of all zones with only Moves from an older zone
abbrev pub CoversMoved : List (List Batch) → List ScannedZone → BlockRecords → Type 0
CoversMoved logs scanned table = (zone : ℕ) → IsMoved logs zone → CoversZone scanned table zone

-- the lowest half clean zone, or that there is none
abbrev pub FindsLowest : ℕ → ℕ → List (List Batch) → Option ℕ → Type 0
FindsLowest block_bytes n logs (Some zone) = IsLowest block_bytes n logs zone
FindsLowest block_bytes n logs None = NoneBelow block_bytes n logs (length logs)

-- the headers of one zone are forgotten
abbrev pub without_heads : List HeadsView → ℕ → List HeadsView
without_heads views zone = slice_set views zone no_heads

-- the sequence of the first header
abbrev pub first_head_sequence : List Head → Option ℕ
first_head_sequence [] = None
first_head_sequence (head ∷ heads) = Some head.sequence
