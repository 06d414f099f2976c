use Rattle.std.proofs.Common.{◌≡◌, ℕ, List, drop, length}
use Rattle.file_drive.specs.Opening.{are_proved}
use Rattle.file_drive.proofs.proving.are_proved.Given as goal

abbrev pub invariant-loop-index : goal.invariant-loop-index
invariant-loop-index g l =
    let file = g.F.FileBytes.seen l.fn.file in
    (are_proved l.geometry file l.index (drop l.index l.flushed) (drop l.index l.words) ≡ are_proved l.geometry file 0 l.flushed l.words)
    × (length l.room ≡ length l.fn.room)
    × (g.F.FileBytes.seen l.file ≡ file)
    × ((c : List ℕ) → g.F.FileBytes.may_leave l.file c → g.F.FileBytes.may_leave l.fn.file c)
    × (g.F.FileBytes.is_usable l.file ≡ g.F.FileBytes.is_usable l.fn.file)
