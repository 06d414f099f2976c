-- What the limits on one command allow.
use Rattle.std.proofs.Common.{◌≡◌, ◌≢◌, ℕ, ◌*◌, ◌/◌, ◌^◌, ◌≤◌, ◌<◌, min, arith}
use Rattle.std.proofs.Math.Nat.{pow-le-pow_right, le-div_iff_mul-le, mul-le-mul_right, mul-le-mul_left}
use Rattle.passthrough.specs.declared.pages.Pages.{Pages}
use Rattle.passthrough.specs.Fields.{append_field, transfer_field}
use Rattle.passthrough.specs.Shape.{IsTransfer, MayMove, IsMemoryLimit, memory_bytes}

-- a greater power of two of memory pages is no fewer bytes
memory_bytes-monotone : (i j : ℕ) → i ≤ j → memory_bytes i ≤ memory_bytes j
memory_bytes-monotone i j le = mul-le-mul_left 4096 (pow-le-pow_right {n = 2} (omega arith) {i = i} {j = j} le)

-- eight doublings of a memory page are the largest command
pub memory_bytes-large : (exponent : ℕ) → 8 ≤ exponent → 2 ^ 20 ≤ memory_bytes exponent
memory_bytes-large exponent le = memory_bytes-monotone 8 exponent le

-- MDTS and ZASL allow two blocks, where they are limits
memory_bytes-two : (exponent block : ℕ) → block ≤ 4096 → exponent ≢ 0 → 2 * block ≤ memory_bytes exponent
memory_bytes-two exponent block small some = omega (arith, memory_bytes-monotone 1 exponent (omega arith))

module _ (pages : Pages) (limit block : ℕ) (some : 0 < block) (small : block ≤ 4096) where
  -- the blocks of a command have 2^20 bytes at most
  bytes-largest : (blocks : ℕ) → blocks ≤ 256 → blocks * block ≤ 2 ^ 20
  bytes-largest blocks le = omega (arith, mul-le-mul_right block le, mul-le-mul_left 256 small)

  -- a command may move two blocks, where the caller's limit allows them
  MayMove-two : 2 ≤ limit / block → MayMove pages limit block 2
  MayMove-two two = record {
    most = omega arith;
    within_limit = (le-div_iff_mul-le some).0 two;
    within_transfer = memory_bytes-two (transfer_field pages) block small;
    within_append = memory_bytes-two (append_field pages) block small;
  }

  -- a and b limit as MDTS and ZASL do, and `transfer` is the least of all limits
  module _
      (a b transfer : ℕ)
      (is_a : IsMemoryLimit (transfer_field pages) a)
      (is_b : IsMemoryLimit (append_field pages) b)
      (least : transfer ≡ min (min (min a b / block) (limit / block)) 256)
    where
      allowed : MayMove pages limit block transfer
      allowed =
          let drives : transfer * block ≤ min a b = (le-div_iff_mul-le some).0 (omega arith) in
          let largest = bytes-largest transfer (omega arith) in
          record {
            most = omega arith;
            within_limit = (le-div_iff_mul-le some).0 (omega arith);
            within_transfer = (is_a (transfer * block) largest).0 (omega arith);
            within_append = (is_b (transfer * block) largest).0 (omega arith);
          }

      greatest : (blocks : ℕ) → MayMove pages limit block blocks → blocks ≤ transfer
      greatest blocks may =
          let largest = bytes-largest blocks may.most in
          let at_a = (is_a (blocks * block) largest).1 may.within_transfer in
          let at_b = (is_b (blocks * block) largest).1 may.within_append in
          let drives : blocks ≤ min a b / block = (le-div_iff_mul-le some).1 (omega arith) in
          let callers : blocks ≤ limit / block = (le-div_iff_mul-le some).1 may.within_limit in
          omega (arith, may.most)

      pub IsTransfer-least : IsTransfer pages limit block transfer
      IsTransfer-least = record { allowed = allowed; greatest = greatest }

      pub two-le-transfer : 2 ≤ limit / block → 2 ≤ transfer
      two-le-transfer two = greatest 2 (MayMove-two two)
