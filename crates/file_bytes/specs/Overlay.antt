-- A file that is only read, and the pages that are kept of it. A page has 4,096 bytes.
use Rattle.std.specs.Prelude.{◌≡◌, ℕ, ◌+◌, ◌*◌, ◌/◌, ◌%◌, ◌<◌, ◌≤◌, List, length, map, nat_eq, position, slice_index, Option, Some, None, option_map}
use Rattle.std.specs.List.{range_with_len}
use Rattle.sqlite_disk.specs.Disk.{Holds}
use Rattle.file_bytes.specs.Changes.{SameBeside}

-- A file, the numbers of the pages that are kept of it, and their bytes, one page after the other.
pub record Overlay (F : Type 0) : Type 0 where
  pub inner : F
  pub pages : List ℕ
  pub kept : List ℕ

-- where the bytes of a page begin, if it is kept
abbrev pub place_of : List ℕ → ℕ → Option ℕ
place_of pages number = option_map (λ slot. 4096 * slot) (position (nat_eq number) pages)

-- the byte at an offset of the file: that of its page, if it is kept there
abbrev pub byte_from : List ℕ → List ℕ → ℕ → Option ℕ → ℕ
byte_from file kept at (Some place) = slice_index kept (place + at % 4096)
byte_from file kept at None = slice_index file at

-- what is shown of a file with such pages
unfoldable pub shown : List ℕ → List ℕ → List ℕ → List ℕ
shown file pages kept = map (λ at. byte_from file kept at (place_of pages (at / 4096))) (range_with_len 0 (length file))

-- the same of an overlay
abbrev pub overlaid : {F : Type 0} → (F → List ℕ) → Overlay F → List ℕ
overlaid seen file = shown (seen file.inner) file.pages file.kept

-- the length of the file is known, and each kept page has all of its bytes
pub record IsKept (file : List ℕ) (size : ℕ) (pages kept : List ℕ) : Type 0 where
  pub size_is : size ≡ length file
  pub whole : length kept ≡ 4096 * length pages

-- the bytes of a page of a file; past its end they may be any
pub record IsPage (file : List ℕ) (number : ℕ) (bytes : List ℕ) : Type 0 where
  pub whole : length bytes ≡ 4096
  pub each : (i : ℕ) → i < 4096 → 4096 * number + i < length file → slice_index bytes i ≡ slice_index file (4096 * number + i)

-- The first bytes of a room are those that are shown from an offset on, and the rest are those of the file within.
pub record IsShown (file over : List ℕ) (at done : ℕ) (room : List ℕ) : Type 0 where
  pub few : done ≤ length room
  pub within : at + length room ≤ length file
  pub shown : (i : ℕ) → i < done → slice_index room i ≡ slice_index over (at + i)
  pub rest : (i : ℕ) → done ≤ i → i < length room → slice_index room i ≡ slice_index file (at + i)

-- The first of these bytes are written from an offset on, and no other byte changed.
pub record IsWritten (old new : List ℕ) (at done : ℕ) (bytes : List ℕ) : Type 0 where
  pub few : done ≤ length bytes
  pub beside : SameBeside at done old new
  pub written : (i : ℕ) → i < done → slice_index new (at + i) ≡ slice_index bytes i

-- these bytes are written from an offset on, and no other byte changed
pub record WritesMore (old new : List ℕ) (at : ℕ) (bytes : List ℕ) : Type 0 where
  pub written : Holds new at bytes
  pub beside : SameBeside at (length bytes) old new
