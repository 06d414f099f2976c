use Rattle.std.proofs.Common.{◌≡◌, ◌-◌, ◌≤◌, length}
use Rattle.disk_files.specs.Input.{Drops}
use Rattle.nbd_session.proofs.reading.skip.Given as goal

abbrev pub invariant-loop-left : goal.invariant-loop-left
invariant-loop-left g l = record {
  within : l.left ≤ l.count;
  whole : length l.piece ≡ 4096;
  dropped : Drops (g.R.Read.remaining l.fn.reader) (g.R.Read.remaining l.reader) (l.count - l.left);
}

abbrev pub decreases-loop-left : goal.decreases-loop-left
decreases-loop-left g l = l.left
