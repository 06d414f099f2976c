-- Which zones hold nothing that the array needs, and what is left when they are emptied.
use Rattle.std.specs.Prelude.{◌≡◌, ◌≢◌, ◌⊎◌, ℕ, ◌<◌, List, [], ◌∷◌, length, Option, Some, None}
use Rattle.std.specs.List.{AllByRecursion}
use Rattle.batch_log.specs.declared.header.Kind.TheVariants.{Move}
use Rattle.batch_log.specs.Log.{Batch}
use Rattle.drive_array.specs.Records.{without}
use Rattle.drive_array.specs.Sizes.{array_of}
use Rattle.drive_array.specs.ZoneLogs.{log_at}

-- a zone without a batch
abbrev pub IsVacant : List (List Batch) → ℕ → Type 0
IsVacant logs zone = log_at logs zone ≡ []

abbrev pub IsMoveFrom : ℕ → Batch → Type 0
IsMoveFrom source batch = (batch.heading.kind ≡ Move) × (batch.heading.source ≡ source)

-- the sequence of the first batch
abbrev pub first_sequence : List Batch → Option ℕ
first_sequence [] = None
first_sequence (batch ∷ log) = Some batch.heading.sequence

-- both are there, and the first is less
abbrev pub IsBefore : Option ℕ → Option ℕ → Type 0
IsBefore (Some a) (Some b) = a < b
IsBefore (Some a) None = ⊥
IsBefore None y = ⊥

-- without the zone's batches, their records and their sizes, the array is the same
abbrev pub IsSpare : ℕ → ℕ → List (List Batch) → ℕ → Type 0
IsSpare block_bytes n logs zone = array_of block_bytes n (without logs zone) ≡ array_of block_bytes n logs

-- What a clean that did not end leaves: a zone with batches, all of them Moves from one other zone, whose first batch is older; and nothing is lost with it.
pub record IsHalfClean (block_bytes n : ℕ) (logs : List (List Batch)) (zone : ℕ) : Type 0 where
  pub victim : ℕ
  pub apart : victim ≢ zone
  pub moves : AllByRecursion (IsMoveFrom victim) (log_at logs zone)
  pub older : IsBefore (first_sequence (log_at logs victim)) (first_sequence (log_at logs zone))
  pub spare : IsSpare block_bytes n logs zone

-- some zone can be emptied, or holds no batch
pub record HasSpare (block_bytes n : ℕ) (logs : List (List Batch)) : Type 0 where
  pub zone : ℕ
  pub in_range : zone < length logs
  pub spare : IsVacant logs zone ⊎ IsHalfClean block_bytes n logs zone

-- ---- the clearing

-- no zone below this one is half clean
abbrev pub NoneBelow : ℕ → ℕ → List (List Batch) → ℕ → Type 0
NoneBelow block_bytes n logs limit = (zone : ℕ) → zone < limit → IsHalfClean block_bytes n logs zone → ⊥

pub record IsLowest (block_bytes n : ℕ) (logs : List (List Batch)) (zone : ℕ) : Type 0 where
  pub in_range : zone < length logs
  pub half_clean : IsHalfClean block_bytes n logs zone
  pub lowest : NoneBelow block_bytes n logs zone

-- These zones are emptied one after the other, each the lowest half clean one of that moment, until there is none: so a mount empties them.
abbrev pub IsClearing : ℕ → ℕ → List (List Batch) → List ℕ → Type 0
IsClearing block_bytes n logs [] = NoneBelow block_bytes n logs (length logs)
IsClearing block_bytes n logs (zone ∷ zones) = IsLowest block_bytes n logs zone × IsClearing block_bytes n (without logs zone) zones

-- the logs that are left
abbrev pub cleared : List (List Batch) → List ℕ → List (List Batch)
cleared logs [] = logs
cleared logs (zone ∷ zones) = cleared (without logs zone) zones

-- a zone's log is still there, or is gone
abbrev pub IsPart : List (List Batch) → List (List Batch) → Type 0
IsPart logs part = (zone : ℕ) → (log_at part zone ≡ log_at logs zone) ⊎ (log_at part zone ≡ [])
