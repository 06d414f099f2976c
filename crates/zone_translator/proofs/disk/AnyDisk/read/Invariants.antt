use Rattle.std.proofs.Common.{◌≡◌, ◌+◌, ◌*◌, ◌≤◌}
use Rattle.std.specs.Prelude.{IsTrue, length}
use Rattle.std.specs.List.{concat}
use Rattle.zone_translator.specs.declared.status.DiskStatus.TheVariants.{Serving}
use Rattle.zone_translator.specs.Flat.{blocks_from}
use Rattle.zone_translator.specs.Parts.{KeepsByRead}
use Rattle.zone_translator.specs.View.{StaysAlike, disk_array, disk_turns}
use Rattle.zone_translator.proofs.disk.AnyDisk.read.Given as goal

abbrev pub invariant-loop-i : goal.invariant-loop-i
invariant-loop-i g l =
    (IsTrue l.self.drive.clean → KeepsByRead l.fn.self l.self) × (l.self.status ≡ Serving) × (IsTrue l.self.drive.clean → l.into.items ≡ concat (blocks_from (disk_array l.fn.self) l.first l.i)) × (l.self.drive.completed ≤ l.fn.self.drive.completed + l.i) × StaysAlike l.fn.self l.self × (disk_turns l.self ≡ disk_turns l.fn.self)
    × (length l.into.items ≡ l.i * l.fn.self.drive.geometry.block)
