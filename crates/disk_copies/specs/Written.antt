-- A disk as a writer: what was written to it are its first blocks.
use Rattle.std.specs.Prelude.{ℕ, List, take}
use Rattle.std.specs.List.{concat}
use Rattle.zone_translator.specs.View.{DiskView, disk_array}

-- a disk, and the block that is written next
pub record Written : Type 0 where
  pub disk : DiskView
  pub next : ℕ

-- the bytes that were written: those of its blocks before the next one
abbrev pub written_bytes : Written → List ℕ
written_bytes written = concat (take written.next (disk_array written.disk))
