use Rattle.std.proofs.Common.{◌≡◌, ◌+◌, ◌-◌, ◌*◌, ◌<◌, ◌≤◌, IsTrue, length}
use Rattle.zone_translator.specs.Keeping.{KeepsServed}
use Rattle.zone_translator.specs.View.{StaysAlike, disk_size}
use Rattle.disk_copies.specs.Copies.{ComesWhole, piece_blocks}
use Rattle.disk_copies.proofs.Imports.{Imported}
use Rattle.disk_copies.proofs.importing.import_blocks.Given as goal

abbrev pub invariant-loop-piece : goal.invariant-loop-piece
invariant-loop-piece g l = record {
  within : 0 < l.taken → l.first + l.taken ≤ disk_size l.fn.disk;
  gives : ComesWhole l.fn.disk.drive.geometry.block (g.R.Read.remaining l.fn.reader) (g.R.Read.remaining l.reader) l.taken;
  imported : IsTrue l.disk.drive.clean → Imported l.fn.disk l.first l.taken (g.R.Read.remaining l.fn.reader) (g.R.Read.remaining l.reader) l.disk;
  long : length l.piece.items ≡ piece_blocks l.fn.disk.drive.geometry.block * l.fn.disk.drive.geometry.block;
  keeps : IsTrue l.disk.drive.clean → KeepsServed l.fn.disk l.disk;
  alike : StaysAlike l.fn.disk l.disk;
}

abbrev pub decreases-loop-piece : goal.decreases-loop-piece
decreases-loop-piece g l = disk_size l.fn.disk - l.taken
