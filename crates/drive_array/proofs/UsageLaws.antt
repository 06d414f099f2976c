-- A zone that blocks were written to can be used.
use Rattle.std.proofs.Common.{◌≡◌, ℕ, Bool, true, false, cond, eqb, List, length, refl}
use Rattle.drive_port.specs.Contents.{active, filled, full, is_usable}

-- a zone that was filled is usable
pub filled-usable : (capacity : ℕ) (blocks : List (List ℕ)) → is_usable (filled capacity blocks).usage ≡ true
filled-usable capacity blocks = by (eqb (length blocks) capacity)
  where
    by : (b : Bool) → is_usable (cond b full active) ≡ true
    by true = refl
    by false = refl
