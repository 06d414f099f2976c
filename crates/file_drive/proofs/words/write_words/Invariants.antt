use Rattle.std.proofs.Common.{◌≡◌, ◌*◌, length, map, take}
use Rattle.sqlite_disk.specs.Disk.{Follows}
use Rattle.file_bytes.specs.Changes.{SameBeside}
use Rattle.file_drive.specs.Tables.{next_entries, word_of, words_in}
use Rattle.file_drive.proofs.words.write_words.Given as goal

abbrev pub invariant-loop-index : goal.invariant-loop-index
invariant-loop-index g l =
    let n = length l.entries in
    (length l.words.items ≡ n)
    × (words_in (g.F.FileBytes.seen l.file) l.at n ≡ l.words.items)
    × (take l.index l.words.items ≡ take l.index (map word_of (next_entries l.action l.flushed l.entries)))
    × SameBeside l.at (8 * n) (g.F.FileBytes.seen l.fn.file) (g.F.FileBytes.seen l.file)
    × Follows (SameBeside l.at (8 * n)) (g.F.FileBytes.may_leave l.fn.file) (g.F.FileBytes.may_leave l.file)
    × (g.F.FileBytes.is_usable l.file ≡ g.F.FileBytes.is_usable l.fn.file)
