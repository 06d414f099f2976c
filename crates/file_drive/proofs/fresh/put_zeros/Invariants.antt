use Rattle.std.proofs.Common.{◌≡◌, replicate}
use Rattle.file_drive.specs.Layout.{file_length}
use Rattle.file_drive.specs.Storing.{AreUnnamed}
use Rattle.file_drive.proofs.fresh.put_zeros.Given as goal

abbrev pub invariant-loop-number : goal.invariant-loop-number
invariant-loop-number g l = record {
  zeros : g.F.FileBytes.seen l.file ≡ replicate (file_length l.geometry) 0;
  unnamed : AreUnnamed (g.F.FileBytes.may_leave l.fn.file) → AreUnnamed (g.F.FileBytes.may_leave l.file);
  usable : g.F.FileBytes.is_usable l.file ≡ g.F.FileBytes.is_usable l.fn.file;
}
