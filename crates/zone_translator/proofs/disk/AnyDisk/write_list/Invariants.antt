use Rattle.std.proofs.Common.{◌≡◌, ◌-◌, ◌+◌, ◌*◌, ◌≤◌, Some, length, take}
use Rattle.std.specs.Prelude.{IsTrue}
use Rattle.batch_log.specs.Log.{data_count}
use Rattle.zone_translator.specs.declared.status.DiskStatus.TheVariants.{Serving}
use Rattle.zone_choice.specs.Changes.{sequence_end}
use Rattle.zone_translator.specs.Batches.{LogsAreCut}
use Rattle.zone_translator.specs.Flat.{put_all}
use Rattle.zone_translator.specs.Listed.{NamesAll, last_block, list_puts}
use Rattle.zone_translator.specs.View.{KeepsDurable, StaysAlike, disk_array, disk_places, disk_size, logs_of, mounted_of, next_sequence, size_on}
use Rattle.zone_translator.proofs.CleaningLaws.{StaysClean}
use Rattle.zone_translator.proofs.CostLaws.{Spends}
use Rattle.zone_translator.proofs.disk.AnyDisk.write_list.Given as goal

abbrev pub invariant-loop-named : goal.invariant-loop-named
invariant-loop-named g l =
    (IsTrue l.self.drive.clean → KeepsDurable l.fn.self l.self) × StaysAlike l.fn.self l.self × (l.self.status ≡ Serving) × (l.named ≤ length l.fn.entries)
    × (l.copied ≡ data_count (take l.named l.fn.entries))
    × (IsTrue l.self.drive.clean → disk_array l.self ≡ put_all (disk_array l.fn.self) (take l.named (list_puts l.fn.self l.fn.entries l.fn.bytes)))
    × (IsTrue l.self.drive.clean → NamesAll (take l.named l.fn.entries) (disk_places l.fn.self) (disk_places l.self))
    × (IsTrue l.self.drive.clean → 1 ≤ l.named → size_on l.self ≡ Some (disk_size l.self)) × (IsTrue l.self.drive.clean → 1 ≤ l.named → next_sequence l.self ≤ sequence_end l.fn.self.drive.geometry)
    × Spends l.fn.self (length l.fn.entries) (length l.fn.entries - l.named) l.self
    × (IsTrue l.self.drive.clean → LogsAreCut l.fn.self.drive.geometry (logs_of l.fn.self) (last_block l.fn.entries) (logs_of l.self))
    × (IsTrue l.self.drive.clean → StaysClean (mounted_of l.fn.self) l.fn.self.clean (mounted_of l.self) l.self.clean)

abbrev pub decreases-loop-named : goal.decreases-loop-named
decreases-loop-named g l = length l.fn.entries - l.named
