use Rattle.std.proofs.Common.{◌≡◌, ◌*◌, map}
use Rattle.file_bytes.specs.Changes.{SameBeside}
use Rattle.file_drive.specs.Storing.{AreUnnamed, stored_entries}
use Rattle.file_drive.specs.Tables.{word_of}
use Rattle.file_drive.proofs.StoringLaws.{FirstPut, OthersZero}
use Rattle.file_drive.proofs.storing.put_table.Given as goal

abbrev pub invariant-loop-index : goal.invariant-loop-index
invariant-loop-index g l = record {
  put : FirstPut (g.F.FileBytes.seen l.file) l.start (map word_of (stored_entries l.geometry l.zones)) l.index;
  others : OthersZero (g.F.FileBytes.seen l.file) l.start l.geometry.zones l.index;
  beside : SameBeside l.start (8 * l.geometry.zones) (g.F.FileBytes.seen l.fn.file) (g.F.FileBytes.seen l.file);
  unnamed : AreUnnamed (g.F.FileBytes.may_leave l.fn.file) → AreUnnamed (g.F.FileBytes.may_leave l.file);
  usable : g.F.FileBytes.is_usable l.file ≡ g.F.FileBytes.is_usable l.fn.file;
}
