use Rattle.std.proofs.Common.{IsTrue, ℕ, ◌≡◌, ◌-◌, ◌*◌, ◌≤◌, Ok, length, take}
use Rattle.drive_port.specs.Calls.{data_blocks}
use Rattle.zone_translator.specs.Flat.{FlatCall, with_nothing, write}
use Rattle.zone_translator.specs.Keeping.{KeepsServed}
use Rattle.zone_translator.specs.View.{StaysAlike, flat_of}
use Rattle.disk_copies.proofs.putting.put.Given as goal

abbrev pub invariant-loop-done : goal.invariant-loop-done
invariant-loop-done g l = record {
  whole : (n : ℕ) × (l.done ≡ n * l.block);
  within : l.done ≤ length l.bytes;
  flat : IsTrue l.disk.drive.clean → FlatCall (flat_of l.fn.disk) (write l.first (data_blocks l.fn.disk.drive.geometry (take l.done l.bytes))) (with_nothing (Ok tt)) (flat_of l.disk);
  keeps : IsTrue l.disk.drive.clean → KeepsServed l.fn.disk l.disk;
  alike : StaysAlike l.fn.disk l.disk;
}

abbrev pub decreases-loop-done : goal.decreases-loop-done
decreases-loop-done g l = length l.bytes - l.done
