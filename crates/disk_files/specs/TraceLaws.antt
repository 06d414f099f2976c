-- What holds of all lines of a trace.
use Rattle.std.specs.Prelude.{◌≡◌, ℕ, ◌<◌, ◌≤◌, ◌^◌, List, [], ◌∷◌, ◌++◌, Some, codes, decimal, length}
use Rattle.hex.specs.Hex.{IsBytes, encode_lower}
use Rattle.disk_files.specs.TraceLine.{trace_line}
use Rattle.disk_files.specs.declared.trace_line.TraceLine.TheVariants.{Read, Fill, Write, Trim, Idle, Grow, Remount}

-- Each call is said by a line, which is read again as that call, with the data that it has.
pub record SaysEachCall : Type 0 where
  pub read : (first blocks : ℕ) → first < 2 ^ 64 → blocks < 2 ^ 64
      → trace_line (codes "read " ++ decimal first ++ codes " " ++ decimal blocks) ≡ Some (Read first blocks, [])
  pub fill : (first blocks byte : ℕ) → first < 2 ^ 64 → blocks < 2 ^ 64 → byte < 2 ^ 8
      → trace_line (codes "fill " ++ decimal first ++ codes " " ++ decimal blocks ++ codes " " ++ encode_lower (byte ∷ []))
      ≡ Some (Fill first blocks byte, [])
  pub write : (first : ℕ) (bytes : List ℕ) → first < 2 ^ 64 → IsBytes bytes → 1 ≤ length bytes
      → trace_line (codes "write " ++ decimal first ++ codes " " ++ encode_lower bytes) ≡ Some (Write first, bytes)
  pub trim : (first blocks : ℕ) → first < 2 ^ 64 → blocks < 2 ^ 64
      → trace_line (codes "trim " ++ decimal first ++ codes " " ++ decimal blocks) ≡ Some (Trim first blocks, [])
  pub idle : (turns : ℕ) → turns < 2 ^ 32 → trace_line (codes "idle " ++ decimal turns) ≡ Some (Idle turns, [])
  pub grow : (blocks : ℕ) → blocks < 2 ^ 64 → trace_line (codes "grow " ++ decimal blocks) ≡ Some (Grow blocks, [])
  pub remount : trace_line (codes "remount") ≡ Some (Remount, [])
