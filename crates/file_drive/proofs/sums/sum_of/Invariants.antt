use Rattle.std.proofs.Common.{◌≡◌}
use Rattle.file_drive.specs.Sums.{sum_of}
use Rattle.file_drive.proofs.sums.sum_of.Given as goal

abbrev pub invariant-loop-index : goal.invariant-loop-index
invariant-loop-index l = l.after ≡ sum_of l.block l.index l.sum l.bytes
