use Rattle.std.proofs.Common.{◌≡◌, ◌*◌, ℕ, List, length}
use Rattle.file_drive.specs.Layout.{part}
use Rattle.file_drive.specs.Sums.{sum_of}
use Rattle.file_drive.proofs.sums.read_sum.Given as goal

abbrev pub invariant-loop-index : goal.invariant-loop-index
invariant-loop-index g l =
    let block = length l.fn.room in
    (l.after ≡ sum_of block l.index l.sum (part (g.F.FileBytes.seen l.fn.file) l.at (l.count * block)))
    × (length l.room ≡ block)
    × (g.F.FileBytes.seen l.file ≡ g.F.FileBytes.seen l.fn.file)
    × ((c : List ℕ) → g.F.FileBytes.may_leave l.file c → g.F.FileBytes.may_leave l.fn.file c)
    × (g.F.FileBytes.is_usable l.file ≡ g.F.FileBytes.is_usable l.fn.file)
