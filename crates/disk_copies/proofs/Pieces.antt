-- Whole blocks, cut from bytes.
use Rattle.std.proofs.Common.{◌≡◌, ℕ, zero, suc, ◌+◌, ◌*◌, ◌/◌, ◌<◌, ◌≤◌, Bool, true, false, List, [], ◌∷◌, ◌++◌, length, take, drop, replicate, refl, ap, get_or, ◌∙◌, arith}
use Rattle.std.proofs.lemmas.List.{length-append, length-drop, length-take}
use Rattle.std.proofs.lemmas.Nat.{div-mul-add}
use Rattle.std.proofs.Math.Nat.{add-mul}
use Rattle.std.proofs.Math.Seq.{take-add}
use Rattle.std.specs.List.{AllByRecursion}
use Rattle.std.specs.Bool.{beq}
use Rattle.batch_log.specs.Log.{zero_block}
use Rattle.drive_port.specs.Calls.{block_count, data_blocks}
use Rattle.zone_states.specs.Zone.{cut_blocks}
use Rattle.zone_states.specs.declared.geometry.Geometry.{Geometry}
use Rattle.zone_states.proofs.Cutting.{cut-append}
use Rattle.zone_translator.proofs.ContentLaws.{cut-replicate}

-- whole blocks of zeros
pub zero-blocks : (geometry : Geometry) (bytes : List ℕ) → length bytes ≡ block_count geometry bytes * geometry.block → bytes ≡ replicate (length bytes) 0
    → data_blocks geometry bytes ≡ replicate (block_count geometry bytes) (zero_block geometry.block)
zero-blocks geometry bytes whole zeros =
    let n = block_count geometry bytes in
    let all : bytes ≡ replicate (n * geometry.block) 0 = zeros ∙ ap (λ (k : ℕ). replicate k 0) whole in
    ap (λ (bs : List ℕ). cut_blocks geometry.block n bs) all ∙ cut-replicate geometry.block n 0

-- so many blocks have so many bytes
pub count-of : (geometry : Geometry) (bytes : List ℕ) (n : ℕ) → 0 < geometry.block → length bytes ≡ n * geometry.block → block_count geometry bytes ≡ n
count-of geometry bytes n some long =
    let e : length bytes ≡ n * geometry.block + 0 = omega (arith, long) in
    ap (λ (k : ℕ). k / geometry.block) e ∙ div-mul-add n geometry.block 0 some

-- bytes of whole blocks, one after the other
pub blocks-both : (geometry : Geometry) (xs ys : List ℕ) (n m : ℕ) → 0 < geometry.block → length xs ≡ n * geometry.block → length ys ≡ m * geometry.block
    → data_blocks geometry (xs ++ ys) ≡ data_blocks geometry xs ++ data_blocks geometry ys
blocks-both geometry xs ys n m some first last =
    let sum : length (xs ++ ys) ≡ (n + m) * geometry.block = length-append xs ys ∙ omega (arith, first, last, add-mul n m geometry.block) in
    rw (count-of geometry (xs ++ ys) (n + m) some sum, count-of geometry xs n some first, count-of geometry ys m some last)
    (cut-append geometry.block n m (n + m) xs ys refl first)

replicate-both : (a b x : ℕ) → replicate a x ++ replicate b x ≡ replicate (a + b) x
replicate-both zero b x = let e : 0 + b ≡ b = omega arith in rw e refl
replicate-both (suc a) b x = let e : suc a + b ≡ suc (a + b) = omega arith in rw e (ap (λ (xs : List ℕ). x ∷ xs) (replicate-both a b x))

-- zeros, and zeros after them
pub zeros-more : (a b : ℕ) (bytes : List ℕ) → take a bytes ≡ replicate a 0 → take b (drop a bytes) ≡ replicate b 0 → take (a + b) bytes ≡ replicate (a + b) 0
zeros-more a b bytes first more = take-add a b bytes ∙ rw (first, more) (replicate-both a b 0)

-- bytes that are those before them are all the same
pub same-before : (b : ℕ) (bs : List ℕ) → bs ≡ take (length bs) (b ∷ bs) → b ∷ bs ≡ replicate (suc (length bs)) b
same-before b [] e = refl
same-before b (c ∷ cs) e =
    let same : c ≡ b = ap (λ (xs : List ℕ). get_or xs 0 0) e in
    let rest : cs ≡ take (length cs) (c ∷ cs) = ap (λ (xs : List ℕ). drop 1 xs) e in
    ap (λ (xs : List ℕ). b ∷ xs) (same-before c cs rest ∙ ap (λ (x : ℕ). replicate (suc (length cs)) x) same)

-- a factor above zero is cancelled on both sides of a comparison
pub times-less : (n m b : ℕ) → 0 < b → n * b ≤ m * b → n ≤ m
times-less zero m b some le = omega arith
times-less (suc n) zero b some le = absurd (omega (arith, some, le, add-mul n 1 b))
times-less (suc n) (suc m) b some le = let less = times-less n m b some (omega (arith, le)) in omega (arith, less)

-- truth values that compare as equal are the same
pub beq-same : (a b : Bool) → beq a b ≡ true → a ≡ b
beq-same true true e = refl
beq-same false false e = refl
beq-same true false e = absurd (cc e)
beq-same false true e = absurd (cc e)

-- a block whose first byte is zero, and each other the one before it
pub zeros-from : (block rest : List ℕ) (b : ℕ) → block ≡ b ∷ rest → b ≡ 0 → rest ≡ take (length rest) block → block ≡ replicate (length block) 0
zeros-from block rest b e none same = rw (e, none) (same-before 0 rest (rw (e, none) at same))

-- so many bytes that are some are some blocks
pub some-blocks : (n b : ℕ) → 0 < n * b → 0 < n
some-blocks zero b some = absurd (omega (arith, some))
some-blocks (suc n) b some = omega arith

-- bytes that are cut are whole blocks
pub cut-whole : (size n : ℕ) (bytes : List ℕ) → length bytes ≡ n * size → AllByRecursion (λ (block : List ℕ). length block ≡ size) (cut_blocks size n bytes)
cut-whole size zero bytes e = tt
cut-whole size (suc n) bytes e =
    let long : size ≤ length bytes = omega (arith, add-mul n 1 size) in
    (omega (arith, long, length-take size bytes), cut-whole size n (drop size bytes) (omega (arith, length-drop size bytes, add-mul n 1 size)))
