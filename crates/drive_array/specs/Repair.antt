-- Which zones a mount has to repair, since an Append was stopped midway in them, and when it can.
use Rattle.std.specs.Prelude.{◌≡◌, ◌≢◌, ℕ, ◌+◌, ◌<◌, ◌≤◌, ◌==◌, ◌&&◌, max, Bool, true, false, List}
use Rattle.std.specs.Prelude.{[], length, slice_index_or, Option, Some, None, is_some, count_by}
use Rattle.std.specs.Int.{div_ceil}
use Rattle.std.specs.List.{AllByRecursion, range_with_len}
use Rattle.zone_states.specs.declared.geometry.Geometry.{Geometry}
use Rattle.batch_log.specs.Log.{Batch}
use Rattle.drive_array.specs.Records.{Record, newest, records}
use Rattle.drive_array.specs.Reserve.{batch_most}
use Rattle.drive_array.specs.ZoneLogs.{log_at, sequences}

-- ---- live records

abbrev pub kept_in : (Record → Bool) → ℕ → Option Record → Bool
kept_in keep zone None = false
kept_in keep zone (Some r) = (r.zone == zone) && keep r

-- of the blocks below a size, how many have their newest record in a zone; and how many of these records are data
abbrev pub live_by : (Record → Bool) → ℕ → List (List Batch) → ℕ → ℕ
live_by keep size logs zone = count_by (λ block. kept_in keep zone (newest block (records 0 logs))) (range_with_len 0 size)

abbrev pub is_any : Record → Bool
is_any r = true

abbrev pub is_data : Record → Bool
is_data r = is_some r.content

abbrev pub live_records : ℕ → List (List Batch) → ℕ → ℕ
live_records size logs zone = live_by is_any size logs zone

abbrev pub live_data : ℕ → List (List Batch) → ℕ → ℕ
live_data size logs zone = live_by is_data size logs zone

-- how many Moves take that many records, one at least
abbrev pub moves : ℕ → ℕ → ℕ
moves most records = max 1 (div_ceil records most)

-- ---- torn zones

-- a zone with a batch, and a torn tail after its batches
pub record IsTornAt (logs : List (List Batch)) (tails : List Bool) (zone : ℕ) : Type 0 where
  pub batch : log_at logs zone ≢ []
  pub tail : slice_index_or tails zone false ≡ true

-- Moves of a torn zone's live records, and their data, fit in one zone; and the sequences last for these Moves
pub record Fits (geometry : Geometry) (limit size : ℕ) (logs : List (List Batch)) (zone : ℕ) : Type 0 where
  pub room : moves (batch_most geometry) (live_records size logs zone) + live_data size logs zone ≤ geometry.capacity
  pub numbers : AllByRecursion (λ sequence. sequence + moves (batch_most geometry) (live_records size logs zone) < limit) (sequences logs)

-- at most one zone is torn, and it can be repaired
pub record CanRepair (geometry : Geometry) (limit size : ℕ) (logs : List (List Batch)) (tails : List Bool) : Type 0 where
  pub one : (a b : ℕ) → IsTornAt logs tails a → IsTornAt logs tails b → a ≡ b
  pub fits : (zone : ℕ) → IsTornAt logs tails zone → Fits geometry limit size logs zone

-- a batch has at most that many entries
abbrev pub HasAtMost : ℕ → Batch → Type 0
HasAtMost most batch = length batch.heading.entries ≤ most
