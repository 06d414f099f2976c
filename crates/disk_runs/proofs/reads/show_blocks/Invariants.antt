use Rattle.std.proofs.Common.{◌≡◌, ◌<◌, ◌++◌}
use Rattle.std.specs.Prelude.{IsTrue}
use Rattle.disk_files.specs.Reply.{block_lines}
use Rattle.zone_translator.specs.Flat.{blocks_from}
use Rattle.zone_translator.specs.Keeping.{KeepsServed}
use Rattle.zone_translator.specs.View.{StaysAlike, disk_array, flat_of}
use Rattle.zone_translator.specs.declared.status.DiskStatus.TheVariants.{Serving}
use Rattle.disk_runs.specs.AnyDevice.{PutsLines}
use Rattle.disk_runs.specs.Trace.{ReadsFew}
use Rattle.disk_runs.proofs.reads.show_blocks.Given as goal

abbrev pub invariant-loop-i : goal.invariant-loop-i
invariant-loop-i g l =
    (IsTrue l.disk.drive.clean → flat_of l.disk ≡ flat_of l.fn.disk) × (IsTrue l.disk.drive.clean → 0 < l.i → l.fn.disk.status ≡ Serving)
    × (IsTrue l.disk.drive.clean → KeepsServed l.fn.disk l.disk) × ReadsFew l.i l.fn.disk l.disk
    × (IsTrue l.disk.drive.clean → l.reply.items ≡ l.fn.reply.items ++ block_lines l.first (blocks_from (disk_array l.fn.disk) l.first l.i))
    × (IsTrue l.disk.drive.clean → l.disk.drive.durable ≡ l.fn.disk.drive.durable) × StaysAlike l.fn.disk l.disk
    × PutsLines l.fn.disk.drive.geometry.block l.first l.i l.fn.reply.items l.reply.items
