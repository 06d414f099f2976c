use Rattle.std.proofs.Common.{◌≡◌, ◌<◌, ◌≤◌, IsTrue, ℕ}
use Rattle.zone_translator.specs.View.{disk_places}
use Rattle.zone_translator.specs.declared.status.DiskStatus.TheVariants.{Serving}
use Rattle.disk_calls.specs.Serves.{has_data}
use Rattle.disk_calls.proofs.extents.extent_from.Given as goal

abbrev pub invariant-loop-block : goal.invariant-loop-block
invariant-loop-block g l = IsTrue l.disk.drive.clean → l.disk.status ≡ Serving
    → (block : ℕ) → l.first ≤ block → block < l.block → has_data (disk_places l.disk) block ≡ l.has_data
