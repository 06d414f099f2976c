-- What a loss of power may leave of a file in memory: the bytes of the last sync, but for the ranges written since. After a
-- sync that failed, whoever opens it later may read any of that, but for the words written after it.
use Rattle.std.specs.Prelude.{◌≡◌, ◌⊎◌, ℕ, ◌+◌, ◌<◌, ◌≤◌, Bool, false, IsTrue, List, length, slice_index}
use Rattle.std.specs.List.{AllByRecursion}
use Rattle.file_bytes.specs.declared.memory.Range.{Range}

-- an offset is not in a range
abbrev pub IsOutside : ℕ → Range → Type 0
IsOutside i range = (i < range.start) ⊎ (range.start + range.length ≤ i)

-- an offset is in no word that was written after a sync that failed
abbrev pub IsUntold : ℕ → Range → Type 0
IsUntold i range = (range.told ≡ false) ⊎ IsOutside i range

-- these bytes are as many as those, and the same where no range is
pub record AreLeft (ranges : List Range) (synced bytes : List ℕ) : Type 0 where
  pub length_is : length bytes ≡ length synced
  pub others : (i : ℕ) → i < length synced → AllByRecursion (IsOutside i) ranges → slice_index bytes i ≡ slice_index synced i

-- these bytes are the same in each such word
abbrev pub HasTold : List Range → List ℕ → List ℕ → Type 0
HasTold ranges old new =
    (i : ℕ) → i < length old → AllByRecursion (IsUntold i) ranges ⊎ (slice_index new i ≡ slice_index old i)

-- A file in memory: what a read returns, what the last sync left, the ranges written since, whether no sync has failed,
-- and whether a word could not be written.
pub record FileState : Type 0 where
  pub bytes : List ℕ
  pub synced : List ℕ
  pub changed : List Range
  pub usable : Bool
  pub stuck : Bool

-- a loss of power may leave what a read returns, or the bytes of the last sync but for the ranges written since
abbrev pub MayLeave : FileState → List ℕ → Type 0
MayLeave file bytes = (bytes ≡ file.bytes) ⊎ AreLeft file.changed file.synced bytes

-- What whoever opens the file later may read: what a read returns, and after a sync that failed all that a loss of power
-- may leave, with each word that was written since.
pub record MayShow (file : FileState) (bytes : List ℕ) : Type 0 where
  pub seen : IsTrue file.usable → bytes ≡ file.bytes
  pub left : MayLeave file bytes
  pub told : HasTold file.changed file.bytes bytes
