-- What holds of all logs and of all drives' contents: the laws by which a command's effect on the array is known. A block has fewer than 2 ^ 32 bytes.
use Rattle.std.specs.Prelude.{◌≡◌, ◌≢◌, ℕ, ◌+◌, ◌-◌, ◌<◌, ◌≤◌, ◌^◌, true, false, nat_lt, Bool, List, [], ◌++◌, length, take, slice_set, Some, None}
use Rattle.std.specs.List.{AllByRecursion}
use Rattle.zone_states.specs.declared.geometry.Geometry.{Geometry}
use Rattle.drive_port.specs.Drive.{DriveState}
use Rattle.drive_port.specs.Run.{restarted}
use Rattle.drive_port.specs.Contents.{Content, Appends, Finishes, Resets, content_at, is_writable}
use Rattle.batch_log.specs.Log.{Batch, IsBatch, batch_blocks, log_size}
use Rattle.drive_array.specs.ZoneLogs.{HasLog, drive_logs, has_torn_tail, log_at, sequences, encoded, zone_logs, zone_tails}
use Rattle.drive_array.specs.Mountable.{AreMountable, AreSound, HoldDisk, IsInside, IsMountable}
use Rattle.drive_array.specs.Records.{AllBelow, IsNewest, Record, append_log, new_records, newest, over, place, records, shown, without}
use Rattle.drive_array.specs.Repair.{HasAtMost, IsTornAt, live_records, live_data, moves}
use Rattle.drive_array.specs.Reserve.{batch_most}
use Rattle.drive_array.specs.Sizes.{IsGreatest, array_of, encoded_size, extended, greatest, map_of}
use Rattle.drive_array.specs.Spare.{IsClearing, IsHalfClean, IsLowest, IsPart, IsSpare, IsVacant, cleared}

-- ---- records and sizes

-- `newest` finds a live record of the block, where there is a record of it
abbrev pub NewestIsLive : Type 0
NewestIsLive = (block : ℕ) (rs : List Record) → IsNewest rs block (newest block rs)

-- `greatest` is the greatest size, if any
abbrev pub GreatestIs : Type 0
GreatestIs = (logs : List (List Batch)) → IsGreatest logs (greatest logs)

-- a batch with the greatest sequence, at the end of a zone's log, counts as if its records came first: each block's
-- newest record, with its place, is the batch's or the old one
abbrev pub AppendFirst : Type 0
AppendFirst =
    (block zone : ℕ) (logs : List (List Batch)) (batch : Batch) → zone < length logs → AllBelow batch.heading.sequence (records 0 logs)
    → newest block (records 0 (append_log logs zone batch)) ≡ newest block (new_records logs zone batch ++ records 0 logs)

-- ---- a batch more

-- A batch that can be the last: with blocks below the size that the logs have with it, and a sequence above all others.
-- A Move of a repair may have a lesser size than the drive, or none.
pub record IsLast (limit n : ℕ) (logs : List (List Batch)) (zone size : ℕ) (batch : Batch) : Type 0 where
  pub size_is : encoded_size n (append_log logs zone batch) ≡ size
  pub grows : encoded_size n logs ≤ size
  pub inside : IsInside size batch
  pub number : batch.heading.sequence < limit
  pub greatest : AllByRecursion (λ sequence. sequence < batch.heading.sequence) (sequences logs)

-- it grows the array to that size by zeros, and then changes it only by its records; the map grows by places of none, and changes likewise
pub record WritesRecords (block_bytes zone_size limit n : ℕ) (logs : List (List Batch)) (zone size : ℕ) (batch : Batch) : Type 0 where
  pub array_is : array_of block_bytes n (append_log logs zone batch) ≡ over (shown block_bytes) (new_records logs zone batch)
      (extended (shown block_bytes None) size (array_of block_bytes n logs))
  pub map_is : map_of zone_size n (append_log logs zone batch)
      ≡ over (place zone_size) (new_records logs zone batch) (extended (place zone_size None) size (map_of zone_size n logs))
  pub sound : AreSound limit n (append_log logs zone batch)

abbrev pub AppendWrites : Type 0
AppendWrites =
    (block_bytes zone_size limit n zone size : ℕ) (logs : List (List Batch)) (batch : Batch) → zone < length logs
    → AreSound limit n logs → IsLast limit n logs zone size batch
    → WritesRecords block_bytes zone_size limit n logs zone size batch

-- a batch that a disk writes: with a size that is not below the old one, with blocks below it, and a sequence above all others
pub record IsNext (limit n : ℕ) (logs : List (List Batch)) (size : ℕ) (batch : Batch) : Type 0 where
  pub has : batch.heading.size ≡ Some size
  pub grows : encoded_size n logs ≤ size
  pub inside : IsInside size batch
  pub number : batch.heading.sequence < limit
  pub greatest : AllByRecursion (λ sequence. sequence < batch.heading.sequence) (sequences logs)

abbrev pub NextIsLast : Type 0
NextIsLast = (limit n zone size : ℕ) (logs : List (List Batch)) (batch : Batch) → zone < length logs
    → IsNext limit n logs size batch → IsLast limit n logs zone size batch

-- a zone that is spare, or half clean, is so after such a batch was appended to another, whatever the size
pub record KeepsSpare (block_bytes n : ℕ) (logs : List (List Batch)) (zone spare : ℕ) (batch : Batch) : Type 0 where
  pub spare_is : IsSpare block_bytes n logs spare → IsSpare block_bytes n (append_log logs zone batch) spare
  pub half_clean : IsHalfClean block_bytes n logs spare → IsHalfClean block_bytes n (append_log logs zone batch) spare

abbrev pub AppendKeepsSpare : Type 0
AppendKeepsSpare =
    (block_bytes limit n zone spare size : ℕ) (logs : List (List Batch)) (batch : Batch) → zone < length logs → zone ≢ spare
    → AreSound limit n logs → IsNext limit n logs size batch
    → KeepsSpare block_bytes n logs zone spare batch

-- ---- a zone is emptied

-- a spare zone can be emptied: the array stays, with its size, and so does what else holds
pub record Emptied (block_bytes limit n : ℕ) (logs : List (List Batch)) (zone : ℕ) : Type 0 where
  pub array_is : array_of block_bytes n (without logs zone) ≡ array_of block_bytes n logs
  pub size_is : encoded_size n (without logs zone) ≡ encoded_size n logs
  pub sound : AreSound limit n (without logs zone)

abbrev pub EmptySpare : Type 0
EmptySpare = (block_bytes limit n zone : ℕ) (logs : List (List Batch)) → AreSound limit n logs → IsSpare block_bytes n logs zone
    → Emptied block_bytes limit n logs zone

-- there is exactly one clearing
pub record IsOneClearing (block_bytes n : ℕ) (logs : List (List Batch)) : Type 0 where
  pub zones : List ℕ
  pub is : IsClearing block_bytes n logs zones
  pub one : (others : List ℕ) → IsClearing block_bytes n logs others → others ≡ zones

abbrev pub OneClearing : Type 0
OneClearing = (block_bytes n : ℕ) (logs : List (List Batch)) → IsOneClearing block_bytes n logs

-- it keeps the array, with its size, and what else holds; each zone keeps its log, or has none
pub record Clears (block_bytes limit n : ℕ) (logs : List (List Batch)) (zones : List ℕ) : Type 0 where
  pub array_is : array_of block_bytes n (cleared logs zones) ≡ array_of block_bytes n logs
  pub size_is : encoded_size n (cleared logs zones) ≡ encoded_size n logs
  pub sound : AreSound limit n (cleared logs zones)
  pub part : IsPart logs (cleared logs zones)

abbrev pub ClearingKeeps : Type 0
ClearingKeeps = (block_bytes limit n : ℕ) (logs : List (List Batch)) (zones : List ℕ) → AreSound limit n logs
    → IsClearing block_bytes n logs zones → Clears block_bytes limit n logs zones

-- ---- logs of zones

-- An Append of a batch's blocks to a zone without a torn tail leaves its log and the batch, and no torn tail; the other zones' logs and tails stay.
pub record LogsAppend (geometry : Geometry) (old new : List Content) (zone : ℕ) (batch : Batch) : Type 0 where
  pub logs : zone_logs geometry new ≡ append_log (zone_logs geometry old) zone batch
  pub all_logs : AllByRecursion (HasLog geometry) old → AllByRecursion (HasLog geometry) new
  pub tails : zone_tails new ≡ zone_tails old

abbrev pub AppendLogs : Type 0
AppendLogs =
    (geometry : Geometry) (old new : List Content) (zone : ℕ) (batch : Batch)
    → geometry.block < 2 ^ 32 → IsBatch geometry.block batch → HasLog geometry (content_at old zone) → has_torn_tail (content_at old zone) ≡ false
    → Appends old new geometry.capacity zone (batch_blocks geometry.block batch) → LogsAppend geometry old new zone batch

-- the same logs, and these tails
pub record SameLogs (geometry : Geometry) (old new : List Content) (tails : List Bool) : Type 0 where
  pub logs : zone_logs geometry new ≡ zone_logs geometry old
  pub all_logs : AllByRecursion (HasLog geometry) old → AllByRecursion (HasLog geometry) new
  pub tails_are : zone_tails new ≡ tails

-- An Append that was stopped after the first j of the batch's blocks, but not all, keeps all logs. Unless j is 0, what
-- it left is a torn tail, and the other zones' tails stay.
abbrev pub TornLogs : Type 0
TornLogs =
    (geometry : Geometry) (old new : List Content) (zone j : ℕ) (batch : Batch)
    → geometry.block < 2 ^ 32 → IsBatch geometry.block batch → HasLog geometry (content_at old zone) → has_torn_tail (content_at old zone) ≡ false
    → j < length (batch_blocks geometry.block batch) → length (content_at old zone).blocks + j < geometry.capacity
    → Appends old new geometry.capacity zone (take j (batch_blocks geometry.block batch))
    → SameLogs geometry old new (slice_set (zone_tails old) zone (nat_lt 0 j))

-- A Finish of a zone that could be written, and has no torn tail, keeps all logs and tails: zero blocks follow the zone's batches now.
abbrev pub FinishLogs : Type 0
FinishLogs =
    (geometry : Geometry) (old new : List Content) (zone : ℕ)
    → geometry.block < 2 ^ 32 → HasLog geometry (content_at old zone) → is_writable (content_at old zone).usage ≡ true
    → has_torn_tail (content_at old zone) ≡ false
    → Finishes old new zone → SameLogs geometry old new (zone_tails old)

-- ---- drives that can be mounted

-- no zone but this one is torn
abbrev pub OnlyTorn : Geometry → List Content → ℕ → Type 0
OnlyTorn geometry zones zone = (other : ℕ) → IsTornAt (zone_logs geometry zones) (zone_tails zones) other → other ≡ zone

-- of a log whose batches have at most that many entries, the Moves of its live records and their data take no more blocks than its batches
abbrev pub FewFit : Type 0
FewFit =
    (most size zone : ℕ) (logs : List (List Batch)) → 1 ≤ most → log_at logs zone ≢ [] → AllByRecursion (HasAtMost most) (log_at logs zone)
    → moves most (live_records size logs zone) + live_data size logs zone ≤ log_size (log_at logs zone)

-- so a drive with one torn zone, whose batches are like ours, can be mounted, if sequences are left for the Moves of a whole zone
abbrev pub TornMounts : Type 0
TornMounts =
    (geometry : Geometry) (zones : List Content) (n zone : ℕ) → 1 ≤ batch_most geometry → geometry.capacity ≤ 2 ^ 63
    → AreSound (2 ^ 63 - geometry.capacity) n (zone_logs geometry zones)
    → AllByRecursion (HasAtMost (batch_most geometry)) (log_at (zone_logs geometry zones) zone)
    → log_size (log_at (zone_logs geometry zones) zone) ≤ geometry.capacity → OnlyTorn geometry zones zone
    → HoldDisk geometry zones n → AreMountable geometry zones n

-- a Finish of a zone without a torn tail, and a restart, leave a drive that can be mounted
abbrev pub FinishMounts : Type 0
FinishMounts =
    (geometry : Geometry) (old new : List Content) (n zone : ℕ)
    → geometry.block < 2 ^ 32 → AreMountable geometry old n → is_writable (content_at old zone).usage ≡ true → has_torn_tail (content_at old zone) ≡ false
    → Finishes old new zone → AreMountable geometry new n

abbrev pub RestartMounts : Type 0
RestartMounts = (drive : DriveState) (n : ℕ) → IsMountable drive n → IsMountable (restarted drive) n

-- ---- the mount's Resets

-- The zone is emptied: the logs are those without it, and the drive can be mounted still.
pub record ResetMounts (geometry : Geometry) (old new : List Content) (n zone : ℕ) : Type 0 where
  pub logs : zone_logs geometry new ≡ without (zone_logs geometry old) zone
  pub mountable : AreMountable geometry new n

-- so it is with the lowest half clean zone, with a vacant one, and with a spare one if no other zone is torn, as after the last Move of a repair
abbrev pub LowestResets : Type 0
LowestResets =
    (geometry : Geometry) (old new : List Content) (n zone : ℕ) → AreMountable geometry old n → IsLowest geometry.block n (zone_logs geometry old) zone
    → Resets old new zone → ResetMounts geometry old new n zone

abbrev pub VacantResets : Type 0
VacantResets =
    (geometry : Geometry) (old new : List Content) (n zone : ℕ) → AreMountable geometry old n → IsVacant (zone_logs geometry old) zone
    → Resets old new zone → ResetMounts geometry old new n zone

abbrev pub SpareResets : Type 0
SpareResets =
    (geometry : Geometry) (old new : List Content) (n zone : ℕ) → AreMountable geometry old n
    → IsSpare geometry.block n (zone_logs geometry old) zone → OnlyTorn geometry old zone
    → Resets old new zone → ResetMounts geometry old new n zone

-- ---- the array

-- The array that a drive encodes has the drive's size. On a drive that can be mounted each block of it is a whole block.
abbrev pub EncodedCount : Type 0
EncodedCount = (drive : DriveState) (n : ℕ) → length (encoded drive n) ≡ encoded_size n (drive_logs drive)

abbrev pub EncodedWhole : Type 0
EncodedWhole = (drive : DriveState) (n : ℕ) → IsMountable drive n → AllByRecursion (λ block. length block ≡ drive.geometry.block) (encoded drive n)
