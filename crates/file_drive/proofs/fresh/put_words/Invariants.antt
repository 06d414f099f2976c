use Rattle.std.proofs.Common.{◌≡◌, ◌*◌, length, take}
use Rattle.sqlite_disk.specs.Disk.{Follows}
use Rattle.file_bytes.specs.Changes.{SameBeside}
use Rattle.file_drive.specs.Tables.{words_in}
use Rattle.file_drive.proofs.fresh.put_words.Given as goal

abbrev pub invariant-loop-index : goal.invariant-loop-index
invariant-loop-index g l =
    (words_in (g.F.FileBytes.seen l.file) l.at l.index ≡ take l.index l.words)
    × SameBeside l.at (8 * length l.words) (g.F.FileBytes.seen l.fn.file) (g.F.FileBytes.seen l.file)
    × (g.F.FileBytes.is_usable l.file ≡ g.F.FileBytes.is_usable l.fn.file)
    × Follows (SameBeside l.at (8 * length l.words)) (g.F.FileBytes.may_leave l.fn.file) (g.F.FileBytes.may_leave l.file)
