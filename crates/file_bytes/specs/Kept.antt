-- What a file that reads ahead keeps.
use Rattle.std.specs.Prelude.{◌≡◌, ℕ, ◌+◌, ◌≤◌, List, length}
use Rattle.sqlite_disk.specs.Disk.{Holds}
use Rattle.file_bytes.specs.declared.kept.Kept.{Kept}

-- the file has the kept bytes, where they begin
abbrev pub AreKept : List ℕ → Kept → Type 0
AreKept file kept = Holds file kept.start kept.bytes.items

-- all bytes of a read are kept
pub record IsWithin (kept : Kept) (at count : ℕ) : Type 0 where
  pub from : kept.start ≤ at
  pub to : at + count ≤ kept.start + length kept.bytes.items

-- the same bytes are kept
pub record SameBytes (old new : Kept) : Type 0 where
  pub start : new.start ≡ old.start
  pub bytes : new.bytes ≡ old.bytes
