-- Blocks that are in a row are distinct.
use Rattle.std.proofs.Common.{ℕ, ◌+◌, [], ◌∷◌, arith}
use Rattle.std.specs.Prelude.{nat_eq}
use Rattle.std.specs.List.{IsDistinct}
use Rattle.std.proofs.lemmas.Bool.{ne_eqb}

-- the last of three, the first and the middle one
pub three-distinct : (n : ℕ) → IsDistinct nat_eq ((n + 2) ∷ n ∷ (n + 1) ∷ [])
unfolding IsDistinct
three-distinct n =
    ((ne_eqb (n + 2) n (λ e. omega (arith, e)), (ne_eqb (n + 2) (n + 1) (λ e. omega (arith, e)), tt)), ((ne_eqb n (n + 1) (λ e. omega (arith, e)), tt), (tt, tt)))
