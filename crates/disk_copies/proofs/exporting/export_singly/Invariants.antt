use Rattle.std.proofs.Common.{IsTrue, Ok}
use Rattle.zone_translator.specs.Keeping.{KeepsServed}
use Rattle.zone_translator.specs.View.{StaysAlike}
use Rattle.disk_copies.specs.Copies.{Exports, GoesWhole}
use Rattle.disk_copies.proofs.exporting.export_singly.Given as goal

abbrev pub invariant-loop-i : goal.invariant-loop-i
invariant-loop-i g l = record {
  exports : IsTrue l.disk.drive.clean → Exports l.fn.disk l.first l.i (g.W.Write.contents l.fn.writer) (g.W.Write.contents l.writer) (Ok tt) l.disk;
  keeps : IsTrue l.disk.drive.clean → KeepsServed l.fn.disk l.disk;
  alike : StaysAlike l.fn.disk l.disk;
  goes : GoesWhole l.fn.disk.drive.geometry.block (g.W.Write.contents l.fn.writer) (g.W.Write.contents l.writer) l.i;
}
