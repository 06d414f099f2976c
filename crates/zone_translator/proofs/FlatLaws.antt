-- Lists in which a run of elements is replaced.
use Rattle.std.proofs.Common.{◌≡◌, ℕ, zero, suc, ◌+◌, ◌<◌, List, [], ◌∷◌, ◌++◌, length, set, refl, ap, arith}
use Rattle.zone_translator.specs.Flat.{replaced}

-- no block replaced changes nothing
pub replaced-none : {X : Type 0} (xs : List X) (first : ℕ) → replaced xs first [] ≡ xs
replaced-none [] first = refl
replaced-none {X} (x ∷ xs) (suc first) = ap (λ (zs : List X). x ∷ zs) (replaced-none xs first)
replaced-none (x ∷ xs) zero = refl

-- one element in front of those that are replaced
pub set-replaced : {X : Type 0} (xs : List X) (first next : ℕ) (y : X) (ys : List X) → next ≡ first + 1 → first < length xs → set (replaced xs next ys) first y ≡ replaced xs first (y ∷ ys)
set-replaced [] first next y ys e lt = absurd (omega arith)
set-replaced (x ∷ xs) zero next y ys e lt = let one : next ≡ suc zero = omega arith in rw one refl
set-replaced {X} (x ∷ xs) (suc first) zero y ys e lt = absurd (omega arith)
set-replaced {X} (x ∷ xs) (suc first) (suc next) y ys e lt = ap (λ (zs : List X). x ∷ zs) (set-replaced xs first next y ys (omega arith) (omega arith))

-- two runs, one after the other
pub replaced-append : {X : Type 0} (xs : List X) (first next : ℕ) (ys zs : List X) → next ≡ first + length ys → replaced (replaced xs first ys) next zs ≡ replaced xs first (ys ++ zs)
replaced-append [] first next ys zs e = refl
replaced-append (x ∷ xs) (suc first) zero ys zs e = absurd (omega arith)
replaced-append {X} (x ∷ xs) (suc first) (suc next) ys zs e = ap (λ (ws : List X). x ∷ ws) (replaced-append xs first next ys zs (omega arith))
replaced-append (x ∷ xs) zero next [] zs e = let none : next ≡ zero = omega arith in rw none refl
replaced-append (x ∷ xs) zero zero (y ∷ ys) zs e = absurd (omega arith)
replaced-append {X} (x ∷ xs) zero (suc next) (y ∷ ys) zs e = ap (λ (ws : List X). y ∷ ws) (replaced-append xs zero next ys zs (omega arith))
