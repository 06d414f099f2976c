use Rattle.std.proofs.Common.{◌-◌, length}
use Rattle.file_bytes.specs.Overlay.{IsShown, overlaid}
use Rattle.file_bytes.proofs.read_only.ReadOnlyFile.show.Given as goal

abbrev pub invariant-loop-done : goal.invariant-loop-done
invariant-loop-done g l = IsShown (g.F.FileBytes.seen l.self.inner) (overlaid g.F.FileBytes.seen l.self) l.at l.done l.room

abbrev pub decreases-loop-done : goal.decreases-loop-done
decreases-loop-done g l = length l.room - l.done
