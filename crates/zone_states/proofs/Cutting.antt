-- Bytes one after the other are cut into blocks one after the other.
use Rattle.std.proofs.Common.{◌≡◌, ℕ, zero, suc, ◌+◌, ◌*◌, ◌/◌, ◌≤◌, List, [], ◌∷◌, ◌++◌, length, take, drop, refl, ◌∙◌, arith}
use Rattle.std.specs.List.{concat}
use Rattle.std.proofs.lemmas.List.{drop-append-le, drop-take, length-append, length-drop, take-append-drop, take-append-le, take-take}
use Rattle.std.proofs.lemmas.Nat.{div-mul-add}
use Rattle.std.proofs.Math.Nat.{add-mul, div-zero}
use Rattle.zone_states.specs.declared.geometry.Geometry.{Geometry}
use Rattle.zone_states.specs.Zone.{cut_blocks}
use Rattle.zone_states.specs.Stored.{AreWholeBlocks, StoredZone, WrittenAfter, stored_write}

-- as many blocks as were asked for
pub length-cut : (size n : ℕ) (xs : List ℕ) → length (cut_blocks size n xs) ≡ n
length-cut size zero xs = refl
length-cut size (suc n) xs = let rest = length-cut size n (drop size xs) in omega (arith, rest)

-- the first j blocks are cut from the first bytes
pub cut-front : (size n j : ℕ) (xs : List ℕ) → j ≤ n → cut_blocks size j (take (j * size) xs) ≡ take j (cut_blocks size n xs)
cut-front size n zero xs le = refl
cut-front size zero (suc j) xs le = absurd (omega arith)
cut-front size (suc n) (suc j) xs le =
    let k : suc j * size ≡ size + j * size = omega arith in
    let first : take size (take (size + j * size) xs) ≡ take size xs = take-take size (size + j * size) xs (omega arith) in
    let rest : drop size (take (size + j * size) xs) ≡ take (j * size) (drop size xs) = drop-take size (j * size) xs in
    rw (k, first, rest, cut-front size n j (drop size xs) (omega arith)) refl

-- the blocks of whole blocks, joined again, are the bytes
pub concat-cut : (size n : ℕ) (bytes : List ℕ) → length bytes ≡ n * size → concat (cut_blocks size n bytes) ≡ bytes
concat-cut size zero [] long = refl
concat-cut size zero (x ∷ bytes) long = absurd (omega arith)
concat-cut size (suc n) bytes long = rw (concat-cut size n (drop size bytes) (omega (arith, length-drop size bytes))) (take-append-drop size bytes)

-- bytes one after the other are cut into the blocks of the first and of the second
pub cut-append : (size n m k : ℕ) (xs ys : List ℕ) → k ≡ n + m → length xs ≡ n * size → cut_blocks size k (xs ++ ys) ≡ cut_blocks size n xs ++ cut_blocks size m ys
cut-append size zero m k [] ys e len = let same : k ≡ m = omega arith in rw same refl
cut-append size zero m k (x ∷ xs) ys e len = absurd (omega arith)
cut-append size (suc n) m zero xs ys e len = absurd (omega arith)
cut-append size (suc n) m (suc k) xs ys e len =
    let long : size ≤ length xs = omega arith in
    let front : take size (xs ++ ys) ≡ take size xs = take-append-le size xs ys long in
    let back : drop size (xs ++ ys) ≡ drop size xs ++ ys = drop-append-le size xs ys long in
    let left : length (drop size xs) ≡ n * size = omega (arith, length-drop size xs) in
    rw (front, back, cut-append size n m k (drop size xs) ys (omega arith) left) refl

-- two whole lengths together hold as many blocks as both hold
blocks_together : (size a b : ℕ) → a ≡ a / size * size → b ≡ b / size * size → (a + b) / size ≡ a / size + b / size
blocks_together zero a b whole_a whole_b = omega (arith, div-zero a, div-zero b, div-zero (a + b))
blocks_together (suc size) a b whole_a whole_b =
    let n = a / suc size in
    let m = b / suc size in
    let total : a + b ≡ (n + m) * suc size + 0 = omega (arith, whole_a, whole_b, add-mul n m (suc size)) in
    rw total (div-mul-add (n + m) (suc size) 0 (omega arith))

-- bytes that are written after a zone's own are blocks after its own
pub stored_write-after : (geometry : Geometry) (zone : StoredZone) (bytes : List ℕ) → AreWholeBlocks geometry.block zone.bytes → AreWholeBlocks geometry.block bytes → WrittenAfter geometry zone bytes (stored_write geometry zone bytes)
stored_write-after geometry zone bytes whole_zone whole_bytes =
    let size = geometry.block in
    let n = length zone.bytes / size in
    let m = length bytes / size in
    let sum : length (zone.bytes ++ bytes) ≡ length zone.bytes + length bytes = length-append zone.bytes bytes in
    let count : length (zone.bytes ++ bytes) / size ≡ n + m = rw sum (blocks_together size (length zone.bytes) (length bytes) whole_zone whole_bytes) in
    let blocks : cut_blocks size (length (zone.bytes ++ bytes) / size) (zone.bytes ++ bytes) ≡ cut_blocks size n zone.bytes ++ cut_blocks size m bytes = cut-append size n m _ zone.bytes bytes count whole_zone in
    let long : length (cut_blocks size n zone.bytes ++ cut_blocks size m bytes) ≡ n + m =
    length-append (cut_blocks size n zone.bytes) (cut_blocks size m bytes) ∙ omega (arith, length-cut size n zone.bytes, length-cut size m bytes) in
    record {
      zone = rw (blocks, long, count) refl;
      whole = rw count (sum ∙ omega (arith, whole_zone, whole_bytes, add-mul n m size));
    }

-- the same of a zone that is given as what the write leaves
pub written-after : (geometry : Geometry) (zone : StoredZone) (bytes : List ℕ) (new : StoredZone) → new ≡ stored_write geometry zone bytes → AreWholeBlocks geometry.block zone.bytes → AreWholeBlocks geometry.block bytes
    → WrittenAfter geometry zone bytes new
written-after geometry zone bytes new same whole_zone whole_bytes = rw same (stored_write-after geometry zone bytes whole_zone whole_bytes)
