-- The repair of a torn zone. On a cleared drive its live records are moved to a vacant zone, and then it is emptied.
-- The Moves say what the torn zone says, and no more: a size above its own would let other zones become half clean.
use Rattle.std.specs.Prelude.{◌≡◌, ◌≢◌, ◌⊎◌, ℕ, ◌+◌, ◌<◌, ◌^◌, true, false, List, [], ◌∷◌, ◌++◌, length, take, slice_set, slice_index_or, Option, Some, None}
use Rattle.std.specs.List.{AllByRecursion}
use Rattle.zone_states.specs.declared.geometry.Geometry.{Geometry}
use Rattle.drive_port.specs.Contents.{Appends, Content, content_at, emptied, is_usable}
use Rattle.batch_log.specs.Log.{Batch, IsBatch, batch_blocks}
use Rattle.drive_array.specs.Mountable.{AreMountable, AreSound, is_partly_written}
use Rattle.drive_array.specs.Records.{Record, batch_records, log_records, newest, records, shown, without}
use Rattle.drive_array.specs.Sizes.{array_of, encoded_size, larger, log_greatest}
use Rattle.drive_array.specs.Spare.{IsBefore, IsHalfClean, IsMoveFrom, IsSpare, IsVacant, NoneBelow, first_sequence}
use Rattle.drive_array.specs.ZoneLogs.{HasLog, has_torn_tail, log_at, sequences, encoded_array, zone_log, zone_logs, zone_tails}

-- a block's newest record is in a zone
abbrev pub LiesIn : ℕ → Option Record → Type 0
LiesIn zone None = ⊥
LiesIn zone (Some r) = r.zone ≡ zone

-- a record says what another one says, which is in a zone
abbrev pub IsCopyFrom : ℕ → Option Record → Record → Type 0
IsCopyFrom zone None copy = ⊥
IsCopyFrom zone (Some r) copy = (r.zone ≡ zone) × (copy.content ≡ r.content)

-- a size that is not above another
abbrev pub IsWithin : Option ℕ → Option ℕ → Type 0
IsWithin size most = larger size most ≡ most

-- Moves from a torn zone of a cleared drive, in a zone that was vacant. They come after all its batches and say no size
-- above the torn zone's; each block that they name had its newest record in the torn zone; and the array is the same.
pub record IsRepairing (block_bytes n : ℕ) (logs : List (List Batch)) (torn into : ℕ) (moves : List Batch) : Type 0 where
  pub none_left : NoneBelow block_bytes n logs (length logs)
  pub in_range : into < length logs
  pub vacant : IsVacant logs into
  pub apart : into ≢ torn
  pub has_batch : log_at logs torn ≢ []
  pub are_moves : AllByRecursion (IsMoveFrom torn) moves
  pub later : AllByRecursion (λ (batch : Batch). AllByRecursion (λ sequence. sequence < batch.heading.sequence) (sequences logs)) moves
  pub within : IsWithin (log_greatest moves) (log_greatest (log_at logs torn))
  pub moved : (block : ℕ) → (newest block (log_records into 0 moves) ≡ None) ⊎ LiesIn torn (newest block (records 0 logs))
  pub array_is : array_of block_bytes n (slice_set logs into moves) ≡ array_of block_bytes n logs
  pub sound : AreSound (2 ^ 63) n (slice_set logs into moves)

-- A drive was cleared, with a torn zone that no other zone was partly written beside. Since then only a vacant zone was written to: it holds such Moves.
pub record IsOnRepair (geometry : Geometry) (n : ℕ) (base now : List Content) (torn into : ℕ) : Type 0 where
  pub mountable : AreMountable geometry base n
  pub alone : (zone : ℕ) → zone ≢ torn → is_partly_written (content_at base zone) ≡ false
  pub only : (zone : ℕ) → slice_index_or (zone_tails base) zone false ≡ true → zone ≡ torn
  pub made : Content
  pub zones : now ≡ slice_set base into made
  pub usable : is_usable made.usage ≡ true
  pub has : HasLog geometry made
  pub repairing : IsRepairing geometry.block n (zone_logs geometry base) torn into (zone_log geometry made)

-- so it is before the first Move
abbrev pub RepairBegins : Type 0
RepairBegins =
    (geometry : Geometry) (n torn into : ℕ) (zones : List Content)
    → geometry.block < 2 ^ 32 → AreMountable geometry zones n → NoneBelow geometry.block n (zone_logs geometry zones) (length zones)
    → ((zone : ℕ) → zone ≢ torn → is_partly_written (content_at zones zone) ≡ false)
    → ((zone : ℕ) → slice_index_or (zone_tails zones) zone false ≡ true → zone ≡ torn)
    → log_at (zone_logs geometry zones) torn ≢ [] → into < length zones → content_at zones into ≡ emptied
    → IsOnRepair geometry n zones zones torn into

-- Such a drive can be mounted, with the same array, also with a torn tail after the Moves, unless the torn zone is half clean by then.
pub record RepairKeeps (geometry : Geometry) (n : ℕ) (base now : List Content) : Type 0 where
  pub mountable : AreMountable geometry now n
  pub array : encoded_array geometry now n ≡ encoded_array geometry base n

abbrev pub RepairMounts : Type 0
RepairMounts =
    (geometry : Geometry) (n torn into : ℕ) (base now : List Content)
    → geometry.block < 2 ^ 32 → IsOnRepair geometry n base now torn into
    → (has_torn_tail (content_at now into) ≡ true → IsHalfClean geometry.block n (zone_logs geometry now) torn → ⊥)
    → RepairKeeps geometry n base now

-- ---- one Move more

-- a Move from the torn zone after all batches, with copies of newest records that are there
pub record IsRepairMove (n : ℕ) (logs : List (List Batch)) (torn into : ℕ) (moves : List Batch) (batch : Batch) : Type 0 where
  pub move : IsMoveFrom torn batch
  pub number : batch.heading.sequence < 2 ^ 63
  pub greatest : AllByRecursion (λ sequence. sequence < batch.heading.sequence) (sequences (slice_set logs into moves))
  pub within : IsWithin batch.heading.size (log_greatest (log_at logs torn))
  pub copies : AllByRecursion (λ (r : Record). IsCopyFrom torn (newest r.block (records 0 logs)) r) (batch_records 0 0 batch)

-- it was appended whole
pub record AppendsMove (geometry : Geometry) (n : ℕ) (base old new : List Content) (torn into : ℕ) (batch : Batch) : Type 0 where
  pub repair : IsOnRepair geometry n base new torn into
  pub log : zone_log geometry (content_at new into) ≡ zone_log geometry (content_at old into) ++ batch ∷ []
  pub whole : has_torn_tail (content_at new into) ≡ false

abbrev pub MoveRepairs : Type 0
MoveRepairs =
    (geometry : Geometry) (n torn into : ℕ) (base old new : List Content) (batch : Batch)
    → geometry.block < 2 ^ 32 → IsOnRepair geometry n base old torn into → IsBatch geometry.block batch
    → IsRepairMove n (zone_logs geometry base) torn into (zone_log geometry (content_at old into)) batch → has_torn_tail (content_at old into) ≡ false
    → Appends old new geometry.capacity into (batch_blocks geometry.block batch) → AppendsMove geometry n base old new torn into batch

-- or its first j blocks were, but not all
pub record TearsMove (geometry : Geometry) (n : ℕ) (base old new : List Content) (torn into : ℕ) : Type 0 where
  pub repair : IsOnRepair geometry n base new torn into
  pub log : zone_log geometry (content_at new into) ≡ zone_log geometry (content_at old into)

abbrev pub TornMoveRepairs : Type 0
TornMoveRepairs =
    (geometry : Geometry) (n torn into j : ℕ) (base old new : List Content) (batch : Batch)
    → geometry.block < 2 ^ 32 → IsOnRepair geometry n base old torn into → IsBatch geometry.block batch → has_torn_tail (content_at old into) ≡ false
    → j < length (batch_blocks geometry.block batch) → length (content_at old into).blocks + j < geometry.capacity
    → Appends old new geometry.capacity into (take j (batch_blocks geometry.block batch)) → TearsMove geometry n base old new torn into

-- ---- the end

-- Once the Moves name each block whose newest record lay in the torn zone, and say the size that it says, nothing is lost with it.
abbrev pub RepairEnds : Type 0
RepairEnds =
    (geometry : Geometry) (n torn into : ℕ) (base now : List Content)
    → geometry.block < 2 ^ 32 → IsOnRepair geometry n base now torn into
    → ((block : ℕ) → LiesIn torn (newest block (records 0 (zone_logs geometry base)))
    → newest block (log_records into 0 (zone_log geometry (content_at now into))) ≢ None)
    → log_greatest (zone_log geometry (content_at now into)) ≡ log_greatest (log_at (zone_logs geometry base) torn)
    → IsSpare geometry.block n (zone_logs geometry now) torn

-- ---- while Moves are left, the torn zone is not half clean

-- all batches of a zone, which has one, are Moves from one other zone, whose first batch is older
pub record IsMoved (logs : List (List Batch)) (zone : ℕ) : Type 0 where
  pub victim : ℕ
  pub apart : victim ≢ zone
  pub moves : AllByRecursion (IsMoveFrom victim) (log_at logs zone)
  pub older : IsBefore (first_sequence (log_at logs victim)) (first_sequence (log_at logs zone))

-- without the zone the array shows something else of this block
pub record NeedsItsBlock (block_bytes n : ℕ) (logs : List (List Batch)) (zone block : ℕ) : Type 0 where
  pub in_range : block < encoded_size n logs
  pub differs : shown block_bytes (newest block (records 0 (without logs zone))) ≢ shown block_bytes (newest block (records 0 logs))

-- Why the torn zone was not half clean on the cleared drive, and what of that holds after some Moves: its batches are
-- not Moves from an older zone; or a block shows something else without it, which no Move names yet; or only it says
-- the size, and no Move says one yet.
abbrev pub IsStillNeeded : ℕ → ℕ → List (List Batch) → ℕ → ℕ → List Batch → Type 0
IsStillNeeded block_bytes n logs torn into moves =
    (IsMoved logs torn → ⊥)
    ⊎ ((block : ℕ) × NeedsItsBlock block_bytes n logs torn block × (newest block (log_records into 0 moves) ≡ None))
    ⊎ ((encoded_size n (without logs torn) ≢ encoded_size n logs) × (log_greatest moves ≡ None))

abbrev pub NeededStays : Type 0
NeededStays =
    (block_bytes n torn into : ℕ) (logs : List (List Batch)) (moves : List Batch)
    → IsRepairing block_bytes n logs torn into moves → IsStillNeeded block_bytes n logs torn into moves
    → IsHalfClean block_bytes n (slice_set logs into moves) torn → ⊥
