-- What an open finds in a file.
use Rattle.std.specs.Prelude.{◌≡◌, ℕ, ◌⊎◌, ◌+◌, ◌≤◌, ◌==◌, nat_le, ◌&&◌, Bool, true, if◌then◌else◌, List, [], ◌∷◌, count_by, length, map}
use Rattle.zone_states.specs.declared.geometry.Geometry.{Geometry}
use Rattle.zone_states.specs.Stored.{StoredZone}
use Rattle.std.specs.List.{AllByRecursion}
use Rattle.zone_states.specs.Transition.{is_active, is_open}
use Rattle.zone_drive.specs.Stored.{may_hold}
use Rattle.sqlite_disk.specs.Disk.{Follows}
use Rattle.file_bytes.specs.Changes.{SameBeside}
use Rattle.file_drive.specs.Head.{at_second, is_of_boot}
use Rattle.file_drive.specs.InFile.{CanOpen, is_apart, is_summed}
use Rattle.file_drive.specs.Layout.{SamePlaces, at_table}
use Rattle.file_drive.specs.Tables.{entry_of, flushed_table, flushed_zones, live_table, word_of, words_in, zones_by}
use Rattle.file_drive.specs.declared.boot.Boot.{Boot}
use Rattle.file_drive.specs.declared.entry.Entry.{Entry}

-- A word that a table may have for a zone: the word of what it says, with no more blocks than a zone has.
pub record IsWord (geometry : Geometry) (word : ℕ) : Type 0 where
  pub said : word_of (entry_of word) ≡ word
  pub within : (entry_of word).written ≤ geometry.capacity

-- the same as a test
abbrev pub is_word : Geometry → ℕ → Bool
is_word geometry word = word_of (entry_of word) == word && nat_le (entry_of word).written geometry.capacity

-- a zone whose state allows its blocks
abbrev pub Holds : Geometry → Entry → Type 0
Holds geometry entry = may_hold entry.state geometry.capacity entry.written ≡ true

-- no more zones are active and open than may be
pub record AreFew (geometry : Geometry) (entries : List Entry) : Type 0 where
  pub active : count_by (λ entry. is_active entry.state) entries ≤ geometry.active
  pub open_zones : count_by (λ entry. is_open entry.state) entries ≤ geometry.«open»

-- the words of a table of a drive of this shape
pub record IsTable (geometry : Geometry) (words : List ℕ) : Type 0 where
  pub each : AllByRecursion (IsWord geometry) words
  pub hold : AllByRecursion (Holds geometry) (map entry_of words)
  pub few : AreFew geometry (map entry_of words)

-- A word of the live table that a file proves, of which the flushed table has this one: it is that of a zone, its state
-- allows its blocks, those of the last flush are still there, and its sum is that of what the file shows.
abbrev pub is_proved : Geometry → List ℕ → ℕ → ℕ → ℕ → Bool
is_proved geometry file number flushed word =
    let entry = entry_of word in
    ((is_word geometry word && may_hold entry.state geometry.capacity entry.written) && is_apart (entry_of flushed) entry)
    && is_summed geometry file number (entry_of flushed) entry

-- each of them, the first of them with a number
abbrev pub are_proved : Geometry → List ℕ → ℕ → List ℕ → List ℕ → Bool
are_proved geometry file number [] words = true
are_proved geometry file number (flushed ∷ rest) [] = true
are_proved geometry file number (flushed ∷ rest) (word ∷ words) =
    is_proved geometry file number flushed word && are_proved geometry file (number + 1) rest words

-- no more zones are active and open than may be
abbrev pub are_few : Geometry → List Entry → Bool
are_few geometry entries =
    nat_le (count_by (λ entry. is_active entry.state) entries) geometry.active
    && nat_le (count_by (λ entry. is_open entry.state) entries) geometry.«open»

-- The file shows what the live table says that was written since the last flush.
abbrev pub proves_live : Geometry → List ℕ → Bool
proves_live geometry file =
    let live = words_in file (at_table geometry (live_table file)) geometry.zones in
    let flushed = words_in file (at_table geometry (flushed_table file)) geometry.zones in
    are_proved geometry file 0 flushed live && are_few geometry (map entry_of live)

-- The table that counts: in the boot that served the file last the one after the last command, if the file proves it, and
-- else the one of the last flush.
abbrev pub opened_table : Geometry → Boot → List ℕ → ℕ
opened_table geometry boot file = if is_of_boot boot file && proves_live geometry file then live_table file else flushed_table file

-- the zones that a system in this boot finds
abbrev pub opened_zones : Geometry → Boot → List ℕ → List StoredZone
opened_zones geometry boot file = zones_by geometry file (opened_table geometry boot file)

-- The new bytes are the same drive, with the same last flush.
pub record KeepsFlushed (geometry : Geometry) (old new : List ℕ) : Type 0 where
  pub long : length new ≡ length old
  pub head : words_in new 0 8 ≡ words_in old 0 8
  pub picked : flushed_table new ≡ flushed_table old
  pub words : words_in new (at_table geometry (flushed_table old)) geometry.zones ≡ words_in old (at_table geometry (flushed_table old)) geometry.zones
  pub zones : SamePlaces geometry old new

-- A change of a drive's file that changes no zone: a system in this boot finds the same zones. One in another boot finds
-- the same, or the zones of the last flush. After a loss of power is found what might have been found before, or that flush.
pub record Unnoticed {F : Type 0} (seen : F → List ℕ) (may_leave : F → List ℕ → Type 0) (boot : Boot) (geometry : Geometry) (old new : F) : Type 0 where
  pub long : length (seen new) ≡ length (seen old)
  pub head : words_in (seen new) 0 8 ≡ words_in (seen old) 0 8
  pub kill : opened_zones geometry boot (seen new) ≡ opened_zones geometry boot (seen old)
  pub others : (other : Boot) → (opened_zones geometry other (seen new) ≡ opened_zones geometry other (seen old))
      ⊎ (opened_zones geometry other (seen new) ≡ flushed_zones geometry (seen old))
  pub power : (bytes : List ℕ) → may_leave new bytes
      → may_leave old bytes ⊎ (CanOpen geometry bytes × (flushed_zones geometry bytes ≡ flushed_zones geometry (seen old)))

-- A sync of a drive's file failed at its open. Only the second word of the boot may have changed, and a loss of power leaves
-- what it might have left before, but for that word.
pub record GivesUp {F : Type 0} (seen : F → List ℕ) (may_leave : F → List ℕ → Type 0) (old new : F) : Type 0 where
  pub beside : SameBeside at_second 8 (seen old) (seen new)
  pub leaves : Follows (SameBeside at_second 8) (may_leave old) (may_leave new)
