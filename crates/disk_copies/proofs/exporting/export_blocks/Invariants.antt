use Rattle.std.proofs.Common.{◌-◌, ◌≤◌, IsTrue, Ok}
use Rattle.zone_translator.specs.Keeping.{KeepsServed}
use Rattle.zone_translator.specs.View.{StaysAlike}
use Rattle.disk_copies.specs.Copies.{Exports, GoesWhole}
use Rattle.disk_copies.proofs.exporting.export_blocks.Given as goal

abbrev pub invariant-loop-done : goal.invariant-loop-done
invariant-loop-done g l = record {
  within : l.done ≤ l.blocks;
  exports : IsTrue l.disk.drive.clean → Exports l.fn.disk l.first l.done (g.W.Write.contents l.fn.writer) (g.W.Write.contents l.writer) (Ok tt) l.disk;
  keeps : IsTrue l.disk.drive.clean → KeepsServed l.fn.disk l.disk;
  alike : StaysAlike l.fn.disk l.disk;
  goes : GoesWhole l.fn.disk.drive.geometry.block (g.W.Write.contents l.fn.writer) (g.W.Write.contents l.writer) l.done;
}

abbrev pub decreases-loop-done : goal.decreases-loop-done
decreases-loop-done g l = l.blocks - l.done
