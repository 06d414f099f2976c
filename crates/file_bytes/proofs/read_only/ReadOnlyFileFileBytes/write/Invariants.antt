use Rattle.std.proofs.Common.{◌≡◌, ◌-◌, length}
use Rattle.file_bytes.specs.Overlay.{IsWritten, overlaid}
use Rattle.file_bytes.proofs.read_only.ReadOnlyFileFileBytes.write.Given as goal

abbrev pub invariant-loop-done : goal.invariant-loop-done
invariant-loop-done g l =
    IsWritten (overlaid g.F.FileBytes.seen l.fn.self) (overlaid g.F.FileBytes.seen l.self) l.at l.done l.bytes
    × (g.F.FileBytes.seen l.self.inner ≡ g.F.FileBytes.seen l.fn.self.inner)

abbrev pub decreases-loop-done : goal.decreases-loop-done
decreases-loop-done g l = length l.bytes - l.done
