-- The sums of zones. By them an open finds out whether a file shows the blocks that were written since the last flush.
use Rattle.std.specs.Prelude.{ℕ, zero, suc, ◌+◌, ◌-◌, ◌*◌, ◌%◌, ◌^◌, not, Bool, false, if◌then◌else◌, List, take, drop}
use Rattle.sqlite_wal.specs.Format.{checksum}
use Rattle.file_drive.specs.declared.entry.Entry.{Entry}

-- A sum after one more block: the checksum that goes on from it, as a number of 27 bits.
unfoldable pub sum_after : ℕ → List ℕ → ℕ
sum_after sum block = let after = checksum false (sum, 0) block in (after.0 * 2 ^ 32 + after.1) % 134217689

-- A sum after so many blocks of a length, one after the other.
abbrev pub sum_of : ℕ → ℕ → ℕ → List ℕ → ℕ
sum_of block zero sum bytes = sum
sum_of block (suc count) sum bytes = sum_of block count (sum_after sum (take block bytes)) (drop block bytes)

-- a zone is in another place than at the last flush
abbrev pub has_moved : Entry → Entry → Bool
has_moved flushed entry = if flushed.second then not entry.second else entry.second

-- how many blocks of the last flush are in the place of a zone
abbrev pub kept_blocks : Entry → Entry → ℕ
kept_blocks flushed entry = if has_moved flushed entry then 0 else flushed.written

-- The sum of a zone that has these bytes. It goes on from that of the last flush, by the blocks that were written since.
abbrev pub zone_sum : ℕ → Entry → Entry → List ℕ → ℕ
zone_sum block flushed entry bytes =
    let kept = kept_blocks flushed entry in
    sum_of block (entry.written - kept) flushed.sum (drop (kept * block) bytes)
