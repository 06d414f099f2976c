-- A part of the blocks that a Read returned is what a Read of that part returns.
use Rattle.std.proofs.Common.{◌≡◌, ℕ, zero, suc, ◌+◌, ◌-◌, ◌*◌, ◌≤◌, ◌∙◌, List, [], ◌∷◌, ◌++◌, length, take, drop, refl, ap, arith, length-append}
use Rattle.std.specs.List.{AllByRecursion}
use Rattle.std.proofs.lemmas.List.{length-replicate, take-take}
use Rattle.std.proofs.Math.Nat.{mul-le-mul_right}
use Rattle.std.proofs.Math.Seq.{drop-append-add}
use Rattle.zone_states.specs.declared.geometry.Geometry.{Geometry}
use Rattle.zone_states.specs.Zone.{IsLawfulZone, Zone}
use Rattle.drive_port.specs.Step.{block_in, bytes_from, zone_at}

-- blocks of a size
abbrev pub AreWhole : ℕ → List (List ℕ) → Type 0
AreWhole size blocks = AllByRecursion (λ block. length block ≡ size) blocks

-- the blocks of each zone are whole
pub whole-blocks : (geometry : Geometry) (zones : List Zone) (i : ℕ) → AllByRecursion (IsLawfulZone geometry) zones → AreWhole geometry.block (zone_at zones i).blocks
whole-blocks geometry [] i all = tt
whole-blocks geometry (z ∷ zs) zero all = all.0.whole
whole-blocks geometry (z ∷ zs) (suc i) all = whole-blocks geometry zs i all.1

length-block : (size : ℕ) (blocks : List (List ℕ)) (offset : ℕ) → AreWhole size blocks → length (block_in size blocks offset) ≡ size
length-block size [] offset whole = length-replicate size 0
length-block size (b ∷ bs) zero whole = whole.0
length-block size (b ∷ bs) (suc offset) whole = length-block size bs offset whole.1

-- how many bytes a Read returns
length-bytes : (size : ℕ) (blocks : List (List ℕ)) (offset count : ℕ) → AreWhole size blocks → length (bytes_from size blocks offset count) ≡ count * size
length-bytes size blocks offset zero whole = omega arith
length-bytes size blocks offset (suc count) whole =
    omega (arith, length-block size blocks offset whole, length-bytes size blocks (offset + 1) count whole, length-append (block_in size blocks offset) (bytes_from size blocks (offset + 1) count))

take-behind : (one rest : List ℕ) (n : ℕ) → take (length one + n) (one ++ rest) ≡ one ++ take n rest
take-behind [] rest n = let same : 0 + n ≡ n = omega arith in rw same refl
take-behind (x ∷ xs) rest n =
    let same : suc (length xs) + n ≡ suc (length xs + n) = omega arith in
    rw same (ap (λ (bytes : List ℕ). x ∷ bytes) (take-behind xs rest n))

-- the first blocks
front-bytes : (size : ℕ) (blocks : List (List ℕ)) (offset count few : ℕ) → few ≤ count → AreWhole size blocks
    → take (few * size) (bytes_from size blocks offset count) ≡ bytes_from size blocks offset few
front-bytes size blocks offset count zero le whole = let none : 0 * size ≡ 0 = omega arith in rw none refl
front-bytes size blocks offset zero (suc few) le whole = absurd (omega arith)
front-bytes size blocks offset (suc count) (suc few) le whole =
    let one = block_in size blocks offset in
    let places : suc few * size ≡ length one + few * size = omega (arith, length-block size blocks offset whole) in
    rw places (take-behind one (bytes_from size blocks (offset + 1) count) (few * size) ∙ ap (λ (bytes : List ℕ). one ++ bytes) (front-bytes size blocks (offset + 1) count few (omega arith) whole))

-- blocks after the first ones
rest-bytes : (size : ℕ) (blocks : List (List ℕ)) (offset count skipped left : ℕ) → count ≡ skipped + left → AreWhole size blocks
    → drop (skipped * size) (bytes_from size blocks offset count) ≡ bytes_from size blocks (offset + skipped) left
rest-bytes size blocks offset count zero left e whole =
    let none : 0 * size ≡ 0 = omega arith in
    let all : count ≡ left = omega arith in
    let same : offset + 0 ≡ offset = omega arith in
    rw (none, all, same) refl
rest-bytes size blocks offset zero (suc skipped) left e whole = absurd (omega arith)
rest-bytes size blocks offset (suc count) (suc skipped) left e whole =
    let one = block_in size blocks offset in
    let places : suc skipped * size ≡ length one + skipped * size = omega (arith, length-block size blocks offset whole) in
    let later : offset + suc skipped ≡ offset + 1 + skipped = omega arith in
    rw (places, later) (drop-append-add one (bytes_from size blocks (offset + 1) count) (skipped * size) ∙ rest-bytes size blocks (offset + 1) count skipped left (omega arith) whole)

-- some of the blocks after the first ones
pub part-bytes : (size : ℕ) (blocks : List (List ℕ)) (offset count skipped few : ℕ) → skipped + few ≤ count → AreWhole size blocks
    → take (few * size) (drop (skipped * size) (bytes_from size blocks offset count)) ≡ bytes_from size blocks (offset + skipped) few
part-bytes size blocks offset count skipped few le whole =
    ap (take (few * size)) (rest-bytes size blocks offset count skipped (count - skipped) (omega arith) whole) ∙ front-bytes size blocks (offset + skipped) (count - skipped) few (omega arith) whole

pub places-add : (a b c size : ℕ) → a + b ≤ c → a * size + b * size ≤ c * size
places-add a b c size le = omega (arith, mul-le-mul_right size le)

-- a part is the same part of what a list begins with
pub take-inside : (n m k : ℕ) (xs : List ℕ) → n + m ≤ k → take m (drop n (take k xs)) ≡ take m (drop n xs)
take-inside zero m k xs le = take-take m k xs (omega arith)
take-inside (suc n) m zero xs le = absurd (omega arith)
take-inside (suc n) m (suc k) [] le = refl
take-inside (suc n) m (suc k) (x ∷ xs) le = take-inside n m k xs (omega arith)
