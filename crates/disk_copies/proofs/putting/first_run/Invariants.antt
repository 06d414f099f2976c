use Rattle.std.proofs.Common.{ℕ, ◌≡◌, ◌-◌, ◌*◌, ◌<◌, ◌≤◌, length, true, take, replicate}
use Rattle.disk_copies.proofs.putting.first_run.Given as goal

abbrev pub invariant-loop-run : goal.invariant-loop-run
invariant-loop-run l = record {
  whole : (n : ℕ) × (0 < n) × (l.run ≡ n * l.block);
  within : l.run ≤ length l.bytes;
  zeros : l.zeros ≡ true → take l.run l.bytes ≡ replicate l.run 0;
}

abbrev pub decreases-loop-run : goal.decreases-loop-run
decreases-loop-run l = length l.bytes - l.run
