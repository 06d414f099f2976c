use Rattle.std.proofs.Common.{◌≡◌, ◌*◌, ◌-◌, ◌≤◌, Some, length, take}
use Rattle.disk_files.specs.Words.{hex_bytes}
use Rattle.disk_files.proofs.digits.decode_pairs.Given as goal

abbrev pub invariant-loop-bytes : goal.invariant-loop-bytes
invariant-loop-bytes l = (length l.bytes ≡ length l.fn.bytes) × (l.done ≤ length l.bytes) × (hex_bytes (take (2 * l.done) l.digits) ≡ Some (take l.done l.bytes))

abbrev pub decreases-loop-bytes : goal.decreases-loop-bytes
decreases-loop-bytes l = length l.bytes - l.done
