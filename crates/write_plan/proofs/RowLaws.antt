-- Which numbers of logical blocks a drive can serve.
use Rattle.std.proofs.Common.{ℕ, ◌*◌, ◌/◌, ◌≤◌, max, arith}
use Rattle.std.proofs.Math.Nat.{div-le_of_le-mul}
use Rattle.zone_states.specs.declared.geometry.Geometry.{Geometry}
use Rattle.drive_array.specs.Reserve.{FitsReserve}

-- a drive can serve fewer blocks, too
pub fits_below : (geometry : Geometry) (a b : ℕ) → FitsReserve geometry b → 1 ≤ a → a ≤ b → FitsReserve geometry a
fits_below geometry a b (one, below, (quota, is, most)) low le = (low, omega arith, (quota, is, omega arith))

-- a share of at most 100 percent is no more than the whole
percent_below : (n p : ℕ) → p ≤ 100 → n * p / 100 ≤ n
percent_below n p le = div-le_of_le-mul 100 (grind arith)

-- a share of the greatest number
pub share_fits : (geometry : Geometry) (n p : ℕ) → FitsReserve geometry n → p ≤ 100 → FitsReserve geometry (max (n * p / 100) 1)
share_fits geometry n p fits le =
    let below = percent_below n p le in
    fits_below geometry (max (n * p / 100) 1) n fits (omega arith) (omega (arith, fits.0))
