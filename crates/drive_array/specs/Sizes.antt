-- How many logical blocks the batches of a drive give it, and the array and the map of that many blocks.
use Rattle.std.specs.Prelude.{◌≡◌, ℕ, ◌≤◌, ◌-◌, max, List, [], ◌∷◌, ◌++◌, length, replicate, Option, Some, None, IfSome, Contains}
use Rattle.std.specs.List.{AllByRecursion}
use Rattle.logical_map.specs.declared.place.Place.{Place}
use Rattle.batch_log.specs.Log.{Batch}
use Rattle.drive_array.specs.Records.{Record, place, records, shown, told}

-- the greater of two sizes, if any
abbrev pub larger : Option ℕ → Option ℕ → Option ℕ
larger None y = y
larger (Some a) None = Some a
larger (Some a) (Some b) = Some (max a b)

-- the greatest size in the headers of a log, and of all logs
abbrev pub log_greatest : List Batch → Option ℕ
log_greatest [] = None
log_greatest (batch ∷ log) = larger batch.heading.size (log_greatest log)

abbrev pub greatest : List (List Batch) → Option ℕ
greatest [] = None
greatest (log ∷ logs) = larger (log_greatest log) (greatest logs)

abbrev pub size_or : ℕ → Option ℕ → ℕ
size_or n None = n
size_or n (Some size) = size

-- the size that the logs encode: the greatest in their headers, or n if no header has one
abbrev pub encoded_size : ℕ → List (List Batch) → ℕ
encoded_size n logs = size_or n (greatest logs)

-- of each block below the size, what a function makes of its newest record
abbrev pub told_of : {X : Type 0} → (Option Record → X) → ℕ → List (List Batch) → List X
told_of f n logs = told f (encoded_size n logs) (records 0 logs)

-- the array and the map that the logs of all zones encode
abbrev pub array_of : ℕ → ℕ → List (List Batch) → List (List ℕ)
array_of block_bytes n logs = told_of (shown block_bytes) n logs

abbrev pub map_of : ℕ → ℕ → List (List Batch) → List Place
map_of zone_size n logs = told_of (place zone_size) n logs

-- a list that is filled up with one value to a length
abbrev pub extended : {X : Type 0} → X → ℕ → List X → List X
extended x size xs = xs ++ replicate (size - length xs) x

-- ---- in plain words

-- a size is not greater than another
abbrev pub IsUpTo : ℕ → Option ℕ → Type 0
IsUpTo limit size = IfSome size (λ n. n ≤ limit)

-- some batch has this size
abbrev pub HasSize : ℕ → List (List Batch) → Type 0
HasSize size logs = (log : List Batch) × (batch : Batch) × Contains logs log × Contains log batch × (batch.heading.size ≡ Some size)

-- what `greatest` finds: a size that a batch has and no batch exceeds, or that no batch has one
abbrev pub IsGreatest : List (List Batch) → Option ℕ → Type 0
IsGreatest logs None = AllByRecursion (AllByRecursion (λ (batch : Batch). batch.heading.size ≡ None)) logs
IsGreatest logs (Some size) = HasSize size logs × AllByRecursion (AllByRecursion (λ (batch : Batch). IsUpTo size batch.heading.size)) logs
