use Rattle.std.proofs.Common.{◌≡◌, ◌-◌, ◌+◌, ◌≤◌, take, Some}
use Rattle.std.specs.Prelude.{IsTrue}
use Rattle.zone_choice.specs.Changes.{sequence_end}
use Rattle.zone_translator.specs.declared.status.DiskStatus.TheVariants.{Serving}
use Rattle.zone_translator.specs.Batches.{LogsAreCut, blocks_of, is_trim}
use Rattle.zone_translator.specs.Changes.{Names}
use Rattle.zone_translator.specs.Flat.{replaced}
use Rattle.zone_translator.specs.View.{KeepsDurable, StaysAlike, disk_array, disk_size, logs_of, most_batches, mounted_of, next_sequence, disk_places, size_on}
use Rattle.zone_translator.proofs.CleaningLaws.{StaysClean}
use Rattle.zone_translator.proofs.CostLaws.{Spends}
use Rattle.zone_translator.proofs.disk.AnyDisk.write_all.Given as goal

abbrev pub invariant-loop-done : goal.invariant-loop-done
invariant-loop-done g l =
    (IsTrue l.self.drive.clean → KeepsDurable l.fn.self l.self) × StaysAlike l.fn.self l.self × (l.self.status ≡ Serving) × (l.done ≤ l.blocks)
    × (IsTrue l.self.drive.clean → disk_array l.self ≡ replaced (disk_array l.fn.self) l.first (take l.done (blocks_of l.fn.self.drive.geometry.block l.blocks l.content)))
    × (IsTrue l.self.drive.clean → Names (is_trim l.content) (disk_places l.fn.self) l.first l.done (disk_places l.self)) × (IsTrue l.self.drive.clean → 1 ≤ l.done → size_on l.self ≡ Some (disk_size l.self))
    × (IsTrue l.self.drive.clean → 1 ≤ l.done → next_sequence l.self ≤ sequence_end l.fn.self.drive.geometry)
    × Spends l.fn.self (most_batches (is_trim l.content) l.fn.self l.blocks) (most_batches (is_trim l.content) l.fn.self (l.blocks - l.done)) l.self
    × (IsTrue l.self.drive.clean → LogsAreCut l.fn.self.drive.geometry (logs_of l.fn.self) (l.first + l.blocks - 1) (logs_of l.self))
    × (IsTrue l.self.drive.clean → StaysClean (mounted_of l.fn.self) l.fn.self.clean (mounted_of l.self) l.self.clean)

abbrev pub decreases-loop-done : goal.decreases-loop-done
decreases-loop-done g l = l.blocks - l.done
