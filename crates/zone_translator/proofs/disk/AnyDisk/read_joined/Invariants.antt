use Rattle.std.proofs.Common.{◌≡◌, ◌-◌, ◌+◌, ◌*◌, ◌≤◌}
use Rattle.std.specs.Prelude.{IsTrue, length}
use Rattle.std.specs.List.{concat}
use Rattle.zone_translator.specs.declared.status.DiskStatus.TheVariants.{Serving}
use Rattle.zone_translator.specs.Flat.{blocks_from}
use Rattle.zone_translator.specs.Parts.{KeepsByRead}
use Rattle.zone_translator.specs.View.{StaysAlike, disk_array, disk_turns}
use Rattle.zone_translator.proofs.JoinedLaws.{JoinsSoFar}
use Rattle.zone_translator.proofs.disk.AnyDisk.read_joined.Given as goal

abbrev pub invariant-loop-done : goal.invariant-loop-done
invariant-loop-done g l =
    (IsTrue l.self.drive.clean → KeepsByRead l.fn.self l.self) × (l.self.status ≡ Serving) × (IsTrue l.self.drive.clean → l.into.items ≡ concat (blocks_from (disk_array l.fn.self) l.first l.done))
    × (l.done ≤ l.blocks) × (IsTrue l.self.drive.clean → JoinsSoFar l.fn.self l.first l.blocks l.done l.self) × StaysAlike l.fn.self l.self
    × (disk_turns l.self ≡ disk_turns l.fn.self) × (l.self.drive.completed ≤ l.fn.self.drive.completed + l.done)
    × (length l.into.items ≡ l.done * l.fn.self.drive.geometry.block)

abbrev pub decreases-loop-done : goal.decreases-loop-done
decreases-loop-done g l = l.blocks - l.done
