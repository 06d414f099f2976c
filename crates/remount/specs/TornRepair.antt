-- What the repair of a torn zone leaves.
use Rattle.std.specs.Prelude.{◌≡◌, ◌≢◌, ◌⊎◌, ℕ, ◌+◌, ◌<◌, nat_eq, Contains, List, [], length, map, slice_set, None}
use Rattle.std.specs.List.{AllByRecursion, IsDistinct, flat_map, range_with_len}
use Rattle.zone_states.specs.declared.geometry.Geometry.{Geometry}
use Rattle.drive_port.specs.Contents.{content_at, contents, full}
use Rattle.drive_port.specs.Drive.{DriveState}
use Rattle.batch_log.specs.declared.header.Entry.{Entry}
use Rattle.batch_log.specs.Log.{Batch}
use Rattle.drive_array.specs.Records.{Record, batch_records, newest, records, without}
use Rattle.drive_array.specs.Repair.{HasAtMost, live_records, moves}
use Rattle.drive_array.specs.Repairing.{IsCopyFrom, IsMoved, LiesIn}
use Rattle.drive_array.specs.Reserve.{batch_most}
use Rattle.drive_array.specs.Sizes.{encoded_size, log_greatest}
use Rattle.drive_array.specs.Spare.{IsMoveFrom, IsVacant}
use Rattle.drive_array.specs.ZoneLogs.{drive_logs, log_at, sequences}
use Rattle.zone_choice.specs.Agreement.{IsShut}
use Rattle.drive_survey.specs.Heads.{greatest_sequence}
use Rattle.remount.specs.Resets.{finished_if_active}

-- A zone of Moves from an older zone, without which the disk would have another size.
abbrev pub HoldsSize : ℕ → List (List Batch) → ℕ → Type 0
HoldsSize n logs zone = IsMoved logs zone × (encoded_size n (without logs zone) ≢ encoded_size n logs)

-- the blocks that batches name, one after the other
abbrev pub all_blocks_named : List Batch → List ℕ
all_blocks_named made = flat_map (λ (batch : Batch). map (λ (entry : Entry). entry.block) batch.heading.entries) made

-- Batches repeat what is live in a zone: each block whose newest record is there is named, once, and no other one
-- is; and its new record says what that one says.
pub record RepeatLive (logs : List (List Batch)) (zone : ℕ) (made : List Batch) : Type 0 where
  pub all : (block : ℕ) → LiesIn zone (newest block (records 0 logs)) → Contains (all_blocks_named made) block
  pub once : IsDistinct nat_eq (all_blocks_named made)
  pub copies : AllByRecursion (λ (batch : Batch). AllByRecursion
      (λ (r : Record). IsCopyFrom zone (newest r.block (records 0 logs)) r) (batch_records 0 0 batch)) made

-- The batches of a repair: Moves from the torn zone of what is live there, as many as that takes and at least one;
-- numbered on from the greatest sequence that there was; and of the greatest size that the torn zone says, or of none
-- where it says none. All of them say it, except perhaps where the disk would have another size without the torn
-- zone: then only the last one may say it.
pub record AreRepairMoves (geometry : Geometry) (n : ℕ) (logs : List (List Batch)) (torn : ℕ) (made : List Batch) : Type 0 where
  pub from : AllByRecursion (IsMoveFrom torn) made
  pub live : RepeatLive logs torn made
  pub few : AllByRecursion (HasAtMost (batch_most geometry)) made
  pub count : length made ≡ moves (batch_most geometry) (live_records (encoded_size n logs) logs torn)
  pub numbers : map (λ (batch : Batch). batch.heading.sequence) made ≡ range_with_len (1 + greatest_sequence (sequences logs)) (length made)
  pub size : log_greatest made ≡ log_greatest (log_at logs torn)
  pub said : (HoldsSize n logs torn → ⊥) → AllByRecursion (λ (batch : Batch). batch.heading.size ≡ log_greatest (log_at logs torn)) made
  pub sizes : AllByRecursion (λ (batch : Batch). (batch.heading.size ≡ log_greatest (log_at logs torn)) ⊎ (batch.heading.size ≡ None)) made

-- The torn zone of these logs has no batch any more, and the lowest zone that had none has the Moves. All others are unchanged.
pub record RepairsTorn (geometry : Geometry) (n : ℕ) (logs : List (List Batch)) (torn : ℕ) (new : List (List Batch)) : Type 0 where
  pub into : ℕ
  pub in_range : into < length logs
  pub vacant : IsVacant logs into
  pub lowest : (zone : ℕ) → zone < into → IsVacant logs zone → ⊥
  pub made : List Batch
  pub are : AreRepairMoves geometry n logs torn made
  pub logs_are : new ≡ without (slice_set logs into made) torn

-- What the repair of a torn zone leaves of the other zones. Each zone that was opened or Closed is finished, and
-- each other one holds what it held, except for one that had no batch. That one has the Moves: it is full only if they
-- fill it, and only it may have been opened.
pub record RepairsBeside (old new : DriveState) (torn : ℕ) : Type 0 where
  pub into : ℕ
  pub vacant : IsVacant (drive_logs old) into
  pub others : (zone : ℕ) → zone < length old.zones → zone ≢ torn → zone ≢ into
      → content_at (contents new.zones) zone ≡ finished_if_active (content_at (contents old.zones) zone)
  pub still : (zone : ℕ) → zone ≢ into → IsVacant (drive_logs old) zone → IsVacant (drive_logs new) zone
  pub some : log_at (drive_logs new) into ≢ []
  pub few : AllByRecursion (HasAtMost (batch_most old.geometry)) (log_at (drive_logs new) into)
  pub filled : (content_at (contents new.zones) into).usage ≡ full → length (content_at (contents new.zones) into).blocks ≡ old.geometry.capacity
  pub opens : (zone : ℕ) → zone ≢ into → IsShut old.zones zone → IsShut new.zones zone
