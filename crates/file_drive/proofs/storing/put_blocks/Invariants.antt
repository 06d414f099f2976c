use Rattle.std.proofs.Common.{◌≡◌, ℕ, ◌-◌, ◌<◌}
use Rattle.zone_drive.specs.Table.{stored_at}
use Rattle.file_bytes.specs.Changes.{SameBeside}
use Rattle.file_drive.specs.Layout.{at_zones, file_length}
use Rattle.file_drive.specs.Storing.{AreUnnamed, stored_entry}
use Rattle.file_drive.specs.Tables.{zone_in}
use Rattle.file_drive.proofs.storing.put_blocks.Given as goal

abbrev pub invariant-loop-index : goal.invariant-loop-index
invariant-loop-index g l = record {
  put : (k : ℕ) → k < l.index → zone_in l.geometry (g.F.FileBytes.seen l.file) k (stored_entry l.geometry (stored_at l.zones k)) ≡ stored_at l.zones k;
  beside : SameBeside (at_zones l.geometry) (file_length l.geometry - at_zones l.geometry) (g.F.FileBytes.seen l.fn.file) (g.F.FileBytes.seen l.file);
  unnamed : AreUnnamed (g.F.FileBytes.may_leave l.fn.file) → AreUnnamed (g.F.FileBytes.may_leave l.file);
  usable : g.F.FileBytes.is_usable l.file ≡ g.F.FileBytes.is_usable l.fn.file;
}
